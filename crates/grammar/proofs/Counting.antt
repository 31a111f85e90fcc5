-- Terms are read as many as are due, and first some of them and then the others is the same. Assumes nothing.
use Rattle.std.proofs.Common.{◌≡◌, ℕ, zero, suc, Bool, true, false, ltb, List, [], ◌∷◌, ◌++◌, length, Ok, Err, Result, refl, ap, ◌∙◌, arith}
use Rattle.terms.specs.Terms.{Term, var, atom, pair}
use Rattle.grammar.specs.declared.commands.Command.TheVariants.{Atom, Var, Pair}
use Rattle.grammar.specs.declared.faults.RuleFault.{RuleFault}
use Rattle.grammar.specs.declared.faults.RuleFault.TheVariants.{Undeclared}
use Rattle.grammar.specs.Asking.{ask}
use Rattle.grammar.specs.TermCommands.{Commands, end, unfit, next, with_term, with_pair, terms}

abbrev pub Reading : Type 0
Reading = Result (List Term × Commands) RuleFault

-- n terms were read
abbrev pub Counted : ℕ → Reading → Type 0
Counted n (Ok (ts, left)) = length ts ≡ n
Counted n (Err e) = Unit {0}

term_counted : (n : ℕ) (t : Term) (r : Reading) → Counted n r → Counted (suc n) (with_term t r)
term_counted n t (Ok (ts, left)) c = ap suc c
term_counted n t (Err e) c = tt

pair_counted : (n : ℕ) (r : Reading) → Counted (suc (suc n)) r → Counted (suc n) (with_pair r)
pair_counted n (Ok ([], left)) c = absurd (omega arith)
pair_counted n (Ok (s ∷ [], left)) c = absurd (omega arith)
pair_counted n (Ok (s ∷ t ∷ ts, left)) c = omega arith
pair_counted n (Err e) c = tt

ask_counted : (n : ℕ) (b : Bool) (e : RuleFault) (r : Reading) → Counted n r → Counted n (ask b e r)
ask_counted n true e r c = c
ask_counted n false e r c = tt

pub counted : (v n : ℕ) (cs : Commands) → Counted n (terms v n cs)
counted v zero cs = refl
counted v (suc n) (end p) = tt
counted v (suc n) (unfit e) = tt
counted v (suc n) (next p (Atom a) cs) = term_counted n (atom a) (terms v n cs) (counted v n cs)
counted v (suc n) (next p (Var x) cs) =
    ask_counted (suc n) (ltb x v) (Undeclared p) (with_term (var x) (terms v n cs)) (term_counted n (var x) (terms v n cs) (counted v n cs))
counted v (suc n) (next p Pair cs) = pair_counted n (terms v (suc (suc n)) cs) (counted v (suc (suc n)) cs)

-- ── some terms, and then the others ──

abbrev pub with_terms : List Term → Reading → Reading
with_terms ts (Ok (us, left)) = Ok (ts ++ us, left)
with_terms ts (Err e) = Err e

abbrev pub then_terms : Reading → (Commands → Reading) → Reading
then_terms (Ok (ts, left)) more = with_terms ts (more left)
then_terms (Err e) more = Err e

abbrev pub plus : ℕ → ℕ → ℕ
plus zero n = n
plus (suc m) n = suc (plus m n)

none_more : (r : Reading) → r ≡ with_terms [] r
none_more (Ok (ts, left)) = refl
none_more (Err e) = refl

term_past : (t : Term) (ts : List Term) (r : Reading) → with_term t (with_terms ts r) ≡ with_terms (t ∷ ts) r
term_past t ts (Ok (us, left)) = refl
term_past t ts (Err e) = refl

term_then : (t : Term) (r : Reading) (more : Commands → Reading) → with_term t (then_terms r more) ≡ then_terms (with_term t r) more
term_then t (Ok (ts, left)) more = term_past t ts (more left)
term_then t (Err e) more = refl

pair_past : (s t : Term) (ts : List Term) (r : Reading) → with_pair (with_terms (s ∷ t ∷ ts) r) ≡ with_terms (pair s t ∷ ts) r
pair_past s t ts (Ok (us, left)) = refl
pair_past s t ts (Err e) = refl

pair_then : (n : ℕ) (r : Reading) (more : Commands → Reading) → Counted (suc (suc n)) r → with_pair (then_terms r more) ≡ then_terms (with_pair r) more
pair_then n (Ok ([], left)) more c = absurd (omega arith)
pair_then n (Ok (s ∷ [], left)) more c = absurd (omega arith)
pair_then n (Ok (s ∷ t ∷ ts, left)) more c = pair_past s t ts (more left)
pair_then n (Err e) more c = refl

ask_then : (b : Bool) (e : RuleFault) (r : Reading) (more : Commands → Reading) → ask b e (then_terms r more) ≡ then_terms (ask b e r) more
ask_then true e r more = refl
ask_then false e r more = refl

pub then_others : (v m n : ℕ) (cs : Commands) → terms v (plus m n) cs ≡ then_terms (terms v m cs) (terms v n)
then_others v zero n cs = none_more (terms v n cs)
then_others v (suc m) n (end p) = refl
then_others v (suc m) n (unfit e) = refl
then_others v (suc m) n (next p (Atom a) cs) =
    ap (with_term (atom a)) (then_others v m n cs) ∙ term_then (atom a) (terms v m cs) (terms v n)
then_others v (suc m) n (next p (Var x) cs) =
    ap (λ r. ask (ltb x v) (Undeclared p) (with_term (var x) r)) (then_others v m n cs)
    ∙ ap (ask (ltb x v) (Undeclared p)) (term_then (var x) (terms v m cs) (terms v n))
    ∙ ask_then (ltb x v) (Undeclared p) (with_term (var x) (terms v m cs)) (terms v n)
then_others v (suc m) n (next p Pair cs) =
    ap with_pair (then_others v (suc (suc m)) n cs)
    ∙ pair_then m (terms v (suc (suc m)) cs) (terms v n) (counted v (suc (suc m)) cs)
