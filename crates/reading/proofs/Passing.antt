-- Passing over terms, command by command. Assumes nothing.
use Rattle.std.proofs.Common.{◌≡◌, ℕ, suc, ◌+◌, ◌-◌, ◌<◌, ◌≤◌, List, [], ◌∷◌, length, drop, Some, None, Ok, Err, Option, Result, sym, refl, ap, ◌∙◌, subst, arith, length-drop}
use Rattle.std.proofs.lemmas.List.{drop-drop}
use Rattle.std.proofs.lemmas.Bool.{lt-ltb}
use Rattle.terms.specs.declared.Form.{Form}
use Rattle.terms.specs.Terms.{Term, var, atom}
use Rattle.grammar.specs.declared.commands.Command.{Command}
use Rattle.grammar.specs.declared.commands.Command.TheVariants.{Atom, Var, Pair}
use Rattle.grammar.specs.declared.faults.CommandFault.{CommandFault}
use Rattle.grammar.specs.declared.faults.RuleFault.{RuleFault}
use Rattle.grammar.specs.declared.faults.RuleFault.TheVariants.{Undeclared}
use Rattle.grammar.specs.Asking.{ask, go}
use Rattle.grammar.specs.TermCommands.{command, operands, Commands, end, unfit, next, commands, with_term, with_pair, terms}
use Rattle.grammar.proofs.Taking.{front, has_operands, one_more, no_more}
use Rattle.reading.specs.Taking.{first_command, size, taken_size, left, Went}

-- ── what one command says of the commands ──

pub record Front (f : Form) (p : ℕ) (bs : List ℕ) (c : Command) : Type 0 where
  pub is : commands f p bs ≡ next p c (commands f (p + size f c) (drop (size f c) bs))
  pub inside : size f c ≤ length bs

-- a result of the first command, taken apart
abbrev Says : Form → ℕ → List ℕ → Result (Option Command) CommandFault → Type 0
Says f p bs (Ok (Some c)) = Front f p bs c
Says f p bs (Ok None) = commands f p bs ≡ end p
Says f p bs (Err e) = commands f p bs ≡ unfit e

says : (f : Form) (p : ℕ) (bs : List ℕ) → Says f p bs (first_command f p bs)
says f p [] = refl
says f p (b ∷ bs) = by (command f p b bs) refl
  where
    by : (r : Result Command CommandFault) → command f p b bs ≡ r → Says f p (b ∷ bs) (go r (λ e. e) (λ c. Ok (Some c)))
    by (Ok c) e =
        let longer : suc (operands f c) ≡ size f c = omega arith in
        record {
          is = one_more f p b bs c e ∙ ap (λ n. next p c (commands f (p + size f c) (drop n (b ∷ bs)))) longer;
          inside = omega (arith, has_operands (front f p b bs c e));
        }
    by (Err x) e = no_more f p b bs x e

pub at_front : (f : Form) (p : ℕ) (bs : List ℕ) (r : Result (Option Command) CommandFault) → r ≡ first_command f p bs → Says f p bs r
at_front f p bs r e = subst (Says f p bs) (sym e) (says f p bs)

-- one command was taken, and the reader stands after it
pub record Took (f : Form) (p : ℕ) (bs : List ℕ) (c : Command) (q : ℕ) (cs : List ℕ) : Type 0 where
  pub front : Front f p bs c
  pub place : q ≡ p + size f c
  pub bytes : cs ≡ drop (size f c) bs

pub took : (f : Form) (p : ℕ) (bs : List ℕ) (o : Option Command) (c : Command) (q : ℕ) (cs : List ℕ) → o ≡ Some c
    → Ok o ≡ first_command f p bs → cs ≡ drop (taken_size f (Ok o)) bs → q ≡ p + taken_size f (Ok o) → Took f p bs c q cs
took f p bs o c q cs e v b k =
    record {
      front = at_front f p bs (Ok (Some c)) (ap Ok (sym e) ∙ v);
      place = k ∙ ap (λ x. p + taken_size f (Ok x)) e;
      bytes = b ∙ ap (λ x. drop (taken_size f (Ok x)) bs) e;
    }

pub fewer : {f : Form} {p : ℕ} {bs : List ℕ} {c : Command} {q : ℕ} {cs : List ℕ} → Took f p bs c q cs → length cs < length bs
fewer {f} {p} {bs} {c} t = omega (arith, ap length t.bytes, length-drop (size f c) bs, t.front.inside)

-- ── what is left ──

left_term : (t : Term) (r : Result (List Term × Commands) RuleFault) → left (with_term t r) ≡ left r
left_term t (Ok (ts, cs)) = refl
left_term t (Err e) = refl

left_pair : (r : Result (List Term × Commands) RuleFault) → left (with_pair r) ≡ left r
left_pair (Ok (ts, cs)) = refl
left_pair (Err e) = refl

-- how many terms are due after a command that was due with n more
abbrev pub then_due : ℕ → Command → ℕ
then_due n (Atom a) = n
then_due n (Var x) = n
then_due n Pair = suc (suc n)

abbrev pub Declared : ℕ → Command → Type 0
Declared v (Atom a) = Unit {0}
Declared v (Var x) = x < v
Declared v Pair = Unit {0}

left_next : (v n p : ℕ) (c : Command) (cs : Commands) → Declared v c → left (terms v (suc n) (next p c cs)) ≡ left (terms v (then_due n c) cs)
left_next v n p (Atom a) cs d = left_term (atom a) (terms v n cs)
left_next v n p (Var x) cs d =
    ap (λ b. left (ask b (Undeclared p) (with_term (var x) (terms v n cs)))) (lt-ltb x v d) ∙ left_term (var x) (terms v n cs)
left_next v n p Pair cs d = left_pair (terms v (suc (suc n)) cs)

due_most : (n : ℕ) (c : Command) → then_due n c ≤ n + 2
due_most n (Atom a) = omega arith
due_most n (Var x) = omega arith
due_most n Pair = omega arith

-- ── the loop ──

-- the reader went from p to q and has as many terms to pass over as give the same
pub record Sofar (f : Form) (v due p : ℕ) (bs : List ℕ) (n q : ℕ) (cs : List ℕ) : Type 0 where
  pub same : left (terms v n (commands f q cs)) ≡ left (terms v due (commands f p bs))
  pub went : Went p bs q cs
  pub room : n + length cs ≤ due + length bs

pub begins : (f : Form) (v due p : ℕ) (bs : List ℕ) → Sofar f v due p bs due p bs
begins f v due p bs =
    let none : 0 ≡ p - p = omega arith in
    record {
      same = refl;
      went = record { onward = omega arith; within = omega arith; front = ap (λ k. drop k bs) none };
      room = omega arith;
    }

pub farther : (p : ℕ) (bs : List ℕ) (q : ℕ) (cs : List ℕ) (k r : ℕ) (ds : List ℕ) → Went p bs q cs → k ≤ length cs → ds ≡ drop k cs → r ≡ q + k → Went p bs r ds
farther p bs q cs k r ds w i d e =
    let on = w.onward in
    let l : length cs ≡ length bs - (q - p) = ap length w.front ∙ length-drop (q - p) bs in
    let to = w.within in
    record {
      onward = omega arith;
      within = omega arith;
      front = d ∙ ap (drop k) w.front ∙ drop-drop k (q - p) bs ∙ ap (λ n. drop n bs) (omega arith);
    }

module _ {f : Form} {v due p : ℕ} {bs : List ℕ} {n q : ℕ} {cs : List ℕ} (s : Sofar f v due p bs n q cs) (some : 0 < n) where
  one_due : n ≡ suc (n - 1)
  one_due = omega arith

  pub reaches : (c : Command) (r : ℕ) (ds : List ℕ) → Took f q cs c r ds → Went p bs r ds
  reaches c r ds h = farther p bs q cs (size f c) r ds s.went h.front.inside h.bytes h.place

  pub goes_on : (c : Command) (m r : ℕ) (ds : List ℕ) → Took f q cs c r ds → Declared v c → m ≡ then_due (n - 1) c → Sofar f v due p bs m r ds
  goes_on c m r ds h d e =
      record {
        same =
            ap (λ k. left (terms v k (commands f r ds))) e
            ∙ ap (λ k. left (terms v (then_due (n - 1) c) (commands f k ds))) h.place
            ∙ ap (λ l. left (terms v (then_due (n - 1) c) (commands f (q + size f c) l))) h.bytes
            ∙ sym (left_next v (n - 1) q c (commands f (q + size f c) (drop (size f c) cs)) d)
            ∙ ap (λ x. left (terms v (suc (n - 1)) x)) (sym h.front.is)
            ∙ ap (λ k. left (terms v k (commands f q cs))) (sym one_due)
            ∙ s.same;
        went = reaches c r ds h;
        room = omega (arith, due_most (n - 1) c, fewer h, s.room);
      }

  pub finds : (x : RuleFault) (t : Commands) → commands f q cs ≡ t → left (terms v (suc (n - 1)) t) ≡ Err x → left (terms v due (commands f p bs)) ≡ Err x
  finds x t e h = sym s.same ∙ ap (λ k. left (terms v k (commands f q cs))) one_due ∙ ap (λ y. left (terms v (suc (n - 1)) y)) e ∙ h
