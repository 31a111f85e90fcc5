-- Reading a rule or a query is the inverse of writing it. Assumes nothing.
use Rattle.std.proofs.Common.{◌≡◌, ℕ, suc, List, [], ◌∷◌, length, Ok, Err, Result, sym, refl, ap, ◌∙◌, subst, arith}
use Rattle.terms.specs.Terms.{Term}
use Rattle.grammar.specs.Singles.{rule_byte, query_byte, rule_due, rule_of, rule, query_due, query_of, query}
use Rattle.grammar.specs.Encodings.{AllBytes, framed, rule_bytes, query_bytes, Within, FitRule, FitQuery}
use Rattle.grammar.specs.Laws.{Inverse, RulesAreTheirBytes, QueriesAreTheirBytes}
use Rattle.grammar.proofs.Framed.{single_reads, single_is}

-- what is read and what is written decide the rest
pub inverse : {T E : Type 0} (read : List ℕ → Result T E) (write : T → List ℕ) (Fit : T → Type 0)
    → ((x : T) → Fit x → read (write x) ≡ Ok x) → ((bs : List ℕ) (x : T) → AllBytes bs → read bs ≡ Ok x → Fit x × (bs ≡ write x)) → Inverse read write Fit
inverse {T} {E} read write Fit back only =
    record {
      reads_back = back;
      only_encodings = only;
      refuses_others = λ bs a none. refused bs a none (read bs) refl;
      apart = λ x y i j e. (let o : ◌≡◌ {A = Result T E} (Ok x) (Ok y) = sym (back x i) ∙ ap read e ∙ back y j in cc);
    }
  where
    refused : (bs : List ℕ) → AllBytes bs → ((x : T) → Fit x → bs ≡ write x → ⊥) → (r : Result T E) → read bs ≡ r → (e : E) × (read bs ≡ Err e)
    refused bs a none (Ok x) e = let k = only bs x a e in absurd (none x k.0 k.1)
    refused bs a none (Err x) e = (x, e)

rule_from : (v g : ℕ) (ts : List Term) (bs : List ℕ) → length ts ≡ suc g → Within v g ts → bs ≡ framed rule_byte v g ts → FitRule (rule_of v ts) × (bs ≡ rule_bytes (rule_of v ts))
rule_from v g [] bs c w e = absurd (omega arith)
rule_from v g (t ∷ ts) bs c w e =
    let same : g ≡ length ts = omega arith in
    (subst (λ n. Within v n (t ∷ ts)) same w, e ∙ ap (λ n. framed rule_byte v n (t ∷ ts)) same)

pub rules_inverse : RulesAreTheirBytes
rules_inverse =
    inverse rule rule_bytes FitRule
    (λ r w. single_reads rule_byte rule_due rule_of r.variables (length r.goals) (r.head ∷ r.goals) w refl)
    (λ bs r a e.
    let z = single_is rule_byte rule_due rule_of bs r a e in
    let k = rule_from z.head.variables z.head.goals z.ts bs z.count z.within z.bytes in
    (subst FitRule (sym z.is) k.0, k.1 ∙ ap rule_bytes (sym z.is)))

query_from : (v g : ℕ) (ts : List Term) (bs : List ℕ) → length ts ≡ g → Within v g ts → bs ≡ framed query_byte v g ts → FitQuery (query_of v ts) × (bs ≡ query_bytes (query_of v ts))
query_from v g ts bs c w e = (subst (λ n. Within v n ts) (sym c) w, e ∙ ap (λ n. framed query_byte v n ts) (sym c))

pub queries_inverse : QueriesAreTheirBytes
queries_inverse =
    inverse query query_bytes FitQuery
    (λ q w. single_reads query_byte query_due query_of q.variables (length q.goals) q.goals w refl)
    (λ bs q a e.
    let z = single_is query_byte query_due query_of bs q a e in
    let k = query_from z.head.variables z.head.goals z.ts bs z.count z.within z.bytes in
    (subst FitQuery (sym z.is) k.0, k.1 ∙ ap query_bytes (sym z.is)))
