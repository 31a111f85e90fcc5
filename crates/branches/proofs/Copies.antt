-- Rules that are copied into a text stand there. Assumes nothing.
use Rattle.std.proofs.Common.{◌≡◌, ℕ, zero, suc, ◌+◌, ◌<◌, ◌≤◌, true, List, [], ◌∷◌, ◌++◌, length, get_or, take, Ok, sym, refl, ap, ◌∙◌, subst, ap₂, append_assoc, append-nil, arith, length-append}
use Rattle.std.proofs.lemmas.Bool.{and_from, and_parts}
use Rattle.terms.specs.declared.Form.TheVariants.{Rules}
use Rattle.terms.specs.Terms.{Term, Rule, Query}
use Rattle.terms.specs.Bytes.{encoding, encodings, AllFit}
use Rattle.grammar.specs.Singles.{header_size, rule, query}
use Rattle.grammar.specs.Encodings.{AllBytes, rule_bytes, query_bytes, FitRule}
use Rattle.grammar.specs.Texts.{fit, all_fit, total}
use Rattle.grammar.proofs.Fitting.{FitText, fit_text}
use Rattle.grammar.proofs.Alone.{queries_inverse}
use Rattle.slips.specs.Opening.{rule_or_none, rules_in}
use Rattle.bindings.specs.Texts.{Spans, Holds}
use Rattle.bindings.proofs.Encodings.{holds_first, holds_second, encoding_spans, encoding_tree, encoding_declares}
use Rattle.branches.specs.declared.Clause.{Clause}
use Rattle.branches.specs.Rows.{after, row, Declared}
use Rattle.branches.specs.Clauses.{rule_at, rules_at, Stated}
use Rattle.branches.specs.Tests.{stated?, all_stated?}
use Rattle.branches.specs.Copies.{flat, clause_of, clauses_from}
use Rattle.branches.proofs.Rows.{spans_after}
use Rattle.branches.proofs.Tests.{stated_true}

-- Terms that are written one after the other stand in a row.
module _ (text : List ℕ) (v : ℕ) where
  next_at : (p : ℕ) (t : Term) → Holds text p (encoding Rules t) → after text p ≡ p + length (encoding Rules t)
  next_at p t h = spans_after text p t _ (encoding_spans text t p _ refl h)

  pub row_is : (p : ℕ) (ts : List Term) → Holds text p (encodings Rules ts) → row text p (length ts) ≡ ts
  row_is p [] h = refl
  row_is p (t ∷ ts) h =
      let f = holds_first text p (encoding Rules t) (encodings Rules ts) h in
      let r = holds_second text p (p + length (encoding Rules t)) (encoding Rules t) (encodings Rules ts) refl h in
      ap₂ ◌∷◌ (encoding_tree text v p t f) (ap (λ (q : ℕ). row text q (length ts)) (next_at p t f) ∙ row_is (p + length (encoding Rules t)) ts r)

  pub row_declared : (p : ℕ) (ts : List Term) → Holds text p (encodings Rules ts) → AllFit v ts → Declared text v p (length ts)
  row_declared p [] h w = tt
  row_declared p (t ∷ ts) h w =
      let f = holds_first text p (encoding Rules t) (encodings Rules ts) h in
      let r = holds_second text p (p + length (encoding Rules t)) (encoding Rules t) (encodings Rules ts) refl h in
      (encoding_declares text v p t f w.0, subst (λ (q : ℕ). Declared text v q (length ts)) (sym (next_at p t f)) (row_declared (p + length (encoding Rules t)) ts r w.1))

-- ── one rule ──

module _ (text : List ℕ) (p : ℕ) (r : Rule) (fits : FitRule r) (holds : Holds text p (rule_bytes r)) where
  five : p + 1 + 1 + 1 + 1 + 1 ≡ p + header_size
  five = omega arith

  parts : Holds text (p + header_size) (encodings Rules (r.head ∷ r.goals))
  parts = subst (λ (q : ℕ). Holds text q (encodings Rules (r.head ∷ r.goals))) five holds.2.2.2.2.2

  pub head_holds : Holds text (p + header_size) (encoding Rules r.head)
  head_holds = holds_first text (p + header_size) (encoding Rules r.head) (encodings Rules r.goals) parts

  body_holds : Holds text (p + header_size + length (encoding Rules r.head)) (encodings Rules r.goals)
  body_holds = holds_second text (p + header_size) _ (encoding Rules r.head) (encodings Rules r.goals) refl parts

  pub head_spans : Spans text (p + header_size) r.head (p + header_size + length (encoding Rules r.head))
  head_spans = encoding_spans text r.head (p + header_size) _ refl head_holds

  pub clause_stated : Stated text (clause_of p r)
  clause_stated =
      record {
        head = encoding_declares text r.variables (p + header_size) r.head head_holds fits.declared.0;
        goals = row_declared text r.variables (p + header_size + length (encoding Rules r.head)) r.goals body_holds fits.declared.1;
      }

  pub clause_rule : rule_at text (clause_of p r) ≡ r
  clause_rule =
      ap₂ (λ (h : Term) (gs : List Term). record { variables = r.variables; head = h; goals = gs }) (encoding_tree text r.variables (p + header_size) r.head head_holds)
      (row_is text r.variables (p + header_size + length (encoding Rules r.head)) r.goals body_holds)

-- ── the query ──

pub record AskedAt (text : List ℕ) (q : Query) : Type 0 where
  pub declared : Declared text q.variables header_size (length q.goals)
  pub is : row text header_size (length q.goals) ≡ q.goals
  pub few : q.variables ≤ 64

pub query_at : (text bs : List ℕ) (q : Query) → AllBytes bs → query bs ≡ Ok q → Holds text 0 bs → AskedAt text q
query_at text bs q all e h =
    let k = queries_inverse.only_encodings bs q all e in
    let w : Holds text 0 (query_bytes q) = subst (Holds text 0) k.1 h in
    let b : Holds text header_size (encodings Rules q.goals) = w.2.2.2.2.2 in
    record {
      declared = row_declared text q.variables header_size q.goals b k.0.declared;
      is = row_is text q.variables header_size q.goals b;
      few = k.0.few_variables;
    }

-- ── all rules ──

-- the rule in a text that is fit
pub fit_rule : (t : List ℕ) (f : FitText t) → rule_or_none (rule t) ≡ f.r
fit_rule t f = ap rule_or_none f.read

pub copied_stated : (text : List ℕ) (p : ℕ) (ts : List (List ℕ)) → all_fit ts ≡ true → Holds text p (flat ts) → all_stated? text (clauses_from p ts) ≡ true
unfolding all_stated?
copied_stated text p [] a h = refl
copied_stated text p (t ∷ ts) a h =
    let b = and_parts (fit t) (all_fit ts) a in
    let f = fit_text t b.0 in
    let w : Holds text p (rule_bytes f.r) = subst (Holds text p) f.bytes (holds_first text p t (flat ts) h) in
    and_from _ _
    (ap (λ (r : Rule). stated? text (clause_of p r)) (fit_rule t f) ∙ stated_true text (clause_of p f.r) (clause_stated text p f.r f.within w))
    (copied_stated text (p + length t) ts b.1 (holds_second text p (p + length t) t (flat ts) refl h))

pub copied_rules : (text : List ℕ) (p : ℕ) (ts : List (List ℕ)) → all_fit ts ≡ true → Holds text p (flat ts) → rules_at text (clauses_from p ts) ≡ rules_in ts
copied_rules text p [] a h = refl
copied_rules text p (t ∷ ts) a h =
    let b = and_parts (fit t) (all_fit ts) a in
    let f = fit_text t b.0 in
    let w : Holds text p (rule_bytes f.r) = subst (Holds text p) f.bytes (holds_first text p t (flat ts) h) in
    ap₂ ◌∷◌
    (ap (λ (r : Rule). rule_at text (clause_of p r)) (fit_rule t f) ∙ clause_rule text p f.r f.within w ∙ sym (fit_rule t f))
    (copied_rules text (p + length t) ts b.1 (holds_second text p (p + length t) t (flat ts) refl h))

-- ── one rule more ──

pub flat_push : (ts : List (List ℕ)) (t : List ℕ) → flat (ts ++ (t ∷ [])) ≡ flat ts ++ t
flat_push [] t = append-nil t
flat_push (u ∷ ts) t = ap (λ (xs : List ℕ). u ++ xs) (flat_push ts t) ∙ sym (append_assoc u (flat ts) t)

pub flat_length : (ts : List (List ℕ)) → length (flat ts) ≡ total ts
flat_length [] = refl
flat_length (t ∷ ts) = length-append t (flat ts) ∙ ap (λ (n : ℕ). length t + n) (flat_length ts)

pub clauses_push : (p : ℕ) (ts : List (List ℕ)) (t : List ℕ) → clauses_from p (ts ++ (t ∷ [])) ≡ clauses_from p ts ++ (clause_of (p + total ts) (rule_or_none (rule t)) ∷ [])
clauses_push p [] t = ap (λ (q : ℕ). clause_of q (rule_or_none (rule t)) ∷ []) (omega arith)
clauses_push p (u ∷ ts) t =
    ap (λ (cs : List Clause). clause_of p (rule_or_none (rule u)) ∷ cs)
    (clauses_push (p + length u) ts t ∙ ap (λ (q : ℕ). clauses_from (p + length u) ts ++ (clause_of q (rule_or_none (rule t)) ∷ [])) (omega arith))

pub total_take : (ts : List (List ℕ)) (i : ℕ) → i < length ts → total (take (suc i) ts) ≡ total (take i ts) + length (get_or ts i [])
total_take [] i l = absurd (omega (arith, l))
total_take (t ∷ ts) zero l = omega arith
total_take (t ∷ ts) (suc i) l = omega (arith, total_take ts i (omega (arith, l)))

pub total_part : (ts : List (List ℕ)) (i : ℕ) → total (take i ts) ≤ total ts
total_part [] zero = omega arith
total_part [] (suc i) = omega arith
total_part (t ∷ ts) zero = omega arith
total_part (t ∷ ts) (suc i) = omega (arith, total_part ts i)
