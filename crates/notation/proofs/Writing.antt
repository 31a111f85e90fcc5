-- Writing a text piece by piece. Assumes nothing.
use Rattle.std.proofs.Common.{◌≡◌, ℕ, zero, suc, List, [], ◌++◌, codes, append-nil, sym, refl, ap, ◌∙◌, append_assoc}
use Rattle.std.specs.Fmt.{HasWritten, IsPlainFormatter, decimal}
use Rattle.std.specs.declared.fmt.Formatter.{Formatter}
use Rattle.std.proofs.Output.{has_written_append, has_written_of_eq}
use Rattle.grammar.specs.declared.commands.Command.{Command}
use Rattle.grammar.specs.TermCommands.{Commands}
use Rattle.notation.specs.Notation.{last, last_atom}
use Rattle.notation.specs.Commands.{Due, nothing, others, term, rest, begun_rest, then_due, text, term_text}
use Rattle.notation.specs.Writing.{Over, Took, Writes}

module _ {W : Type 0} {took : W → List ℕ → W → Type 0} where
  -- one piece more
  pub piece : {f g h : Formatter W} {whole mid back : Due → List ℕ} (bs : List ℕ) → Writes took f g whole mid → (IsPlainFormatter g → HasWritten took g bs h)
      → ((d : Due) → mid d ≡ bs ++ back d) → Writes took f h whole back
  piece {back = back} bs w p e =
      record {
        front = w.front ++ bs;
        wrote = λ k. has_written_append _ _ _ _ _ _ (w.wrote k) (p (w.wrote k).plain);
        same = λ d. w.same d ∙ ap (λ l. w.front ++ l) (e d) ∙ sym (append_assoc w.front bs (back d));
      }

  -- a term that stands in a text
  pub term_written : {f g h : Formatter W} {whole : Due → List ℕ} {cs left : Commands} {c : Command} (k : Due → Due) (after : Commands)
      → Writes took f g whole (λ d. text (term (k d)) cs) → Took cs c left → Writes took g h (term_text c left) (λ d. text d after)
      → Writes took f h whole (λ d. text (k d) after)
  term_written k after w t v = piece v.front w v.wrote (λ d. ap (text (term (k d))) t.front ∙ v.same (k d))

  -- a first part that stands in a text
  module _ {f g h : Formatter W} {whole : Due → List ℕ} {cs left : Commands} {c : Command} (after : Commands)
      (w : Writes took f g whole (λ d. text (term (rest d)) cs)) (t : Took cs c left) (v : Writes took g h (term_text c left) (λ d. text d after)) where
    -- then its rest begins
    pub rest_written : {k : Formatter W} {e : Command} {last : Commands} (o : Command) (bs : List ℕ) → Took after e last → e ≡ o
        → (IsPlainFormatter h → HasWritten took h bs k) → bs ≡ begun_rest o → Writes took f k whole (λ d. text (then_due d o) last)
    rest_written {last = last} o bs r i p j =
        piece bs (term_written rest after w t v) p
        (λ d. ap (text (rest d)) r.front ∙ ap (λ x. begun_rest x ++ text (then_due d x) last) i ∙ ap (λ l. l ++ text (then_due d o) last) (sym j))

    -- or nothing stands next
    pub ends : {last : Commands} → Over after → Over last → Writes took f h whole (λ d. text d last)
    ends o p =
        let all = term_written rest after w t v in
        record { front = all.front; wrote = all.wrote; same = λ d. all.same d ∙ ap (λ l. all.front ++ l) (o.none (rest d) ∙ sym (p.none d)) }

  -- a term that follows another
  pub other_written : {f g h i : Formatter W} {whole : Due → List ℕ} {cs left : Commands} {c : Command} (after : Commands)
      → Writes took f g whole (λ d. text others cs) → Took cs c left → (IsPlainFormatter g → HasWritten took g (codes ", ") h)
      → Writes took h i (term_text c left) (λ d. text d after) → Writes took f i whole (λ d. text others after)
  other_written {left = left} {c = c} after w t p v =
      let comma : Writes took _ _ _ (λ d. term_text c left others) = piece (codes ", ") w p (λ d. ap (text others) t.front) in
      piece v.front comma v.wrote (λ d. v.same others)

  -- nothing was due but what was written
  pub all_written : {f g : Formatter W} {whole : Due → List ℕ} {back : List ℕ} → Writes took f g whole (λ d. back) → back ≡ []
      → IsPlainFormatter f → HasWritten took f (whole nothing) g
  all_written w e k = has_written_of_eq _ _ _ _ _ (sym (w.same nothing ∙ ap (λ l. w.front ++ l) e ∙ append-nil w.front)) (w.wrote k)

pub last_is : (n : ℕ) → (n ≡ 0 → ⊥) → last (decimal n) ≡ last_atom n
last_is zero h = absurd (h refl)
last_is (suc n) h = refl
