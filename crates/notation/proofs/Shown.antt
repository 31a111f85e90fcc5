-- What is shown of the bytes of terms. Assumes nothing.
use Rattle.std.proofs.Common.{◌≡◌, ℕ, ◌+◌, ◌*◌, ◌/◌, ◌%◌, List, [], ◌∷◌, ◌++◌, length, ◌==◌, if◌then◌else◌, codes, sym, refl, ap, ap₂, ◌∙◌, append_assoc, append-nil, arith}
use Rattle.std.proofs.Math.Dec.{eqb-suc-zero}
use Rattle.terms.specs.declared.Form.TheVariants.{Rules}
use Rattle.terms.specs.Terms.{Term, var, atom, pair}
use Rattle.terms.specs.Bytes.{two, encoding, encodings}
use Rattle.grammar.specs.declared.commands.Command.{Command}
use Rattle.grammar.specs.declared.commands.Command.TheVariants.{Atom, Var, Pair}
use Rattle.grammar.specs.TermCommands.{Commands, end, unfit, next, commands}
use Rattle.grammar.proofs.Taking.{one_more}
use Rattle.notation.specs.Notation.{shown, rest as shown_rest, others as shown_others, goals}
use Rattle.notation.specs.Commands.{Due, nothing, others, term, rest, text, begun, begun_rest, then_due, first_text, all_text}
use Rattle.notation.specs.Laws.{FirstIsShown, AllAreShown, RuleIsShown}

-- how a term's commands are shown, and then those that follow
pub record Shows (t : Term) (cs left : Commands) : Type 0 where
  pub first : (d : Due) → text (term d) cs ≡ shown t ++ text d left
  pub last : (d : Due) → text (rest d) cs ≡ shown_rest t ++ text d left
  pub other : text others cs ≡ codes ", " ++ text (term others) cs

-- the commands of a term's bytes at p
pub record Stands (t : Term) (p : ℕ) (bs : List ℕ) : Type 0 where
  pub place : ℕ
  pub shows : Shows t (commands Rules p (encoding Rules t ++ bs)) (commands Rules place bs)

-- a leaf is one command
leaf : (t : Term) (c : Command) (p : ℕ) (cs left : Commands) → cs ≡ next p c left → shown t ≡ begun c → shown_rest t ≡ begun_rest c
    → ((d : Due) → then_due d c ≡ d) → Shows t cs left
leaf t c p cs left e f g h = record {
  first = λ d. ap (text (term d)) e ∙ ap (λ k. begun c ++ text k left) (h d) ∙ ap (λ l. l ++ text d left) (sym f);
  last = λ d. ap (text (rest d)) e ∙ ap (λ k. begun_rest c ++ text k left) (h d) ∙ ap (λ l. l ++ text d left) (sym g);
  other = ap (text others) e ∙ sym (ap (λ cs. codes ", " ++ text (term others) cs) e);
}

joined : (a b c : List ℕ) (x : ℕ) → x ∷ (a ++ (b ++ c)) ≡ (x ∷ (a ++ b)) ++ c
joined a b c x = ap (λ l. x ∷ l) (sym (append_assoc a b c))

-- a pair is a command, its first part and its rest
parts : (s t : Term) (p : ℕ) (cs mid more left : Commands) → cs ≡ next p Pair mid → Shows s mid more → Shows t more left → Shows (pair s t) cs left
parts s t p cs mid more left e a b = record {
  first = λ d. ap (text (term d)) e ∙ ap (λ l. codes "(" ++ l) (a.first (rest d) ∙ ap (λ l. shown s ++ l) (b.last d)) ∙ joined (shown s) (shown_rest t) (text d left) 40;
  last = λ d. ap (text (rest d)) e ∙ ap (λ l. codes " " ++ l) (a.first (rest d) ∙ ap (λ l. shown s ++ l) (b.last d)) ∙ joined (shown s) (shown_rest t) (text d left) 32;
  other = ap (text others) e ∙ sym (ap (λ cs. codes ", " ++ text (term others) cs) e);
}

whole : (n : ℕ) → n / 256 * 256 + n % 256 ≡ n
whole n = omega arith

stands : (t : Term) (p : ℕ) (bs : List ℕ) → Stands t p bs
stands (var x) p bs = record {
  place = p + 2;
  shows = leaf (var x) (Var x) p _ _ (one_more Rules p 0x02 (x ∷ bs) (Var x) refl) refl refl (λ d. refl);
}
stands (atom a) p bs = record {
  place = p + 3;
  shows =
      leaf (atom a) (Atom a) p _ _
      (one_more Rules p 0x01 (two a ++ bs) (Atom (a / 256 * 256 + a % 256)) refl ∙ ap (λ n. next p (Atom n) (commands Rules (p + 3) bs)) (whole a)) refl refl (λ d. refl);
}
stands (pair s t) p bs =
    let first = stands s (p + 1) (encoding Rules t ++ bs) in
    let last = stands t first.place bs in
    record {
      place = last.place;
      shows =
          parts s t p _ _ _ _
          (one_more Rules p 0x03 ((encoding Rules s ++ encoding Rules t) ++ bs) Pair refl ∙ ap (λ l. next p Pair (commands Rules (p + 1) l)) (append_assoc (encoding Rules s) (encoding Rules t) bs))
          first.shows last.shows;
    }

-- nothing is due
done : (cs : Commands) → text nothing cs ≡ []
done (end p) = refl
done (unfit e) = refl
done (next p c cs) = refl

pub first_is_shown : FirstIsShown
first_is_shown t left =
    let s = stands t 0 left in
    s.shows.first nothing ∙ ap (λ l. shown t ++ l) (done (commands Rules s.place left)) ∙ append-nil (shown t)

others_shown : (ts : List Term) (p : ℕ) → text others (commands Rules p (encodings Rules ts)) ≡ shown_others ts
others_shown [] p = refl
others_shown (t ∷ ts) p =
    let s = stands t p (encodings Rules ts) in
    s.shows.other ∙ ap (λ l. codes ", " ++ l) (s.shows.first others ∙ ap (λ l. shown t ++ l) (others_shown ts s.place))

pub all_are_shown : AllAreShown
all_are_shown [] = refl
all_are_shown (t ∷ ts) =
    let s = stands t 0 (encodings Rules ts) in
    s.shows.first others ∙ ap (λ l. shown t ++ l) (others_shown ts s.place)

-- a head alone
head_shown : (t : Term) → first_text (encoding Rules t) ≡ shown t
head_shown t = ap first_text (sym (append-nil (encoding Rules t))) ∙ first_is_shown t []

-- the goals, where there are some
goals_shown : (ts : List Term) → (if length ts == 0 then [] else codes " if " ++ all_text (encodings Rules ts)) ≡ goals ts
goals_shown [] = refl
goals_shown (t ∷ ts) =
    let shows : codes " if " ++ all_text (encodings Rules (t ∷ ts)) ≡ goals (t ∷ ts) = ap (λ l. codes " if " ++ l) (all_are_shown (t ∷ ts)) in
    ap (λ b. if b then [] else codes " if " ++ all_text (encodings Rules (t ∷ ts))) (eqb-suc-zero (length ts)) ∙ shows

pub rule_is_shown : RuleIsShown
rule_is_shown p r = ap₂ (λ a b. a ++ b) (head_shown r.head) (goals_shown r.goals)
