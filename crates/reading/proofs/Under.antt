-- The rule and the query under a header. Assumes nothing.
use Rattle.std.proofs.Common.{◌≡◌, ℕ, suc, ◌+◌, List, [], ◌∷◌, length, take, drop, Ok, Err, Result, sym, refl, ap, ◌∙◌, ap₂, append-nil, arith}
use Rattle.terms.specs.declared.Form.TheVariants.{Rules}
use Rattle.terms.specs.Terms.{Term}
use Rattle.terms.specs.Bytes.{encoding, encodings}
use Rattle.grammar.specs.declared.faults.RuleFault.{RuleFault}
use Rattle.grammar.specs.Asking.{go}
use Rattle.grammar.specs.TermCommands.{end, unfit, next, commands, terms}
use Rattle.grammar.specs.Singles.{Header, header_size, used_up, body, rule_due, rule_of, query_due, query_of}
use Rattle.grammar.proofs.Counting.{Reading, Counted, counted}
use Rattle.reading.specs.Views.{seen, frame_bytes, parts_of, parts_read, RuleView, rule_shown, rule_under, QueryView, query_shown, query_under}
use Rattle.reading.proofs.Parts.{framed}

-- a body in its frame
in_frame : (due p : ℕ) (h : Header) (bs : List ℕ) → Ok bs ≡ frame_bytes p h → body due p h ≡ used_up (terms h.variables due (commands Rules (p + header_size) bs))
in_frame due p h bs e =
    framed due p h ∙ ap (λ r. go r (λ e. e) (λ bs. used_up (terms h.variables due (commands Rules (p + header_size) bs)))) (sym e)

used_counted : (n : ℕ) (r : Reading) (ts : List Term) → Counted n r → used_up r ≡ Ok ts → length ts ≡ n
used_counted n (Ok (us, end p)) ts c e = let same : us ≡ ts = cc in ap length (sym same) ∙ c
used_counted n (Ok (us, unfit x)) ts c e = let z : ◌≡◌ {A = ℕ} 0 1 = cc in absurd (omega arith)
used_counted n (Ok (us, next p x cs)) ts c e = let z : ◌≡◌ {A = ℕ} 0 1 = cc in absurd (omega arith)
used_counted n (Err x) ts c e = let z : ◌≡◌ {A = ℕ} 0 1 = cc in absurd (omega arith)

-- what two parts come from
pub record From (v m n p : ℕ) (bs : List ℕ) (head goals : List ℕ) : Type 0 where
  pub ts : List Term
  pub read : used_up (terms v (m + n) (commands Rules p bs)) ≡ Ok ts
  pub count : length ts ≡ m + n
  pub first : head ≡ encodings Rules (take m ts)
  pub others : goals ≡ encodings Rules (drop m ts)

module _ (v m n p : ℕ) (bs : List ℕ) where
  comes : (head goals : List ℕ) → Ok (head, goals) ≡ parts_read v m n p bs → From v m n p bs head goals
  comes head goals e = by (used_up (terms v (m + n) (commands Rules p bs))) refl e
    where
      by : (r : Result (List Term) RuleFault) → used_up (terms v (m + n) (commands Rules p bs)) ≡ r
          → Ok (head, goals) ≡ go r (λ e. e) (parts_of m) → From v m n p bs head goals
      by (Ok ts) k e =
          let same : ◌≡◌ {A = List ℕ × List ℕ} (head, goals) (encodings Rules (take m ts), encodings Rules (drop m ts)) = cc in
          record {
            ts = ts;
            read = k;
            count = used_counted (m + n) (terms v (m + n) (commands Rules p bs)) ts (counted v (m + n) (commands Rules p bs)) k;
            first = ap (λ x. x.0) same;
            others = ap (λ x. x.1) same;
          }
      by (Err x) k e = let z : ◌≡◌ {A = ℕ} 0 1 = cc in absurd (omega arith)

  found : (e : RuleFault) → Err e ≡ parts_read v m n p bs → used_up (terms v (m + n) (commands Rules p bs)) ≡ Err e
  found e h = by (used_up (terms v (m + n) (commands Rules p bs))) h
    where
      by : (r : Result (List Term) RuleFault) → Err e ≡ go r (λ e. e) (parts_of m) → r ≡ Err e
      by (Ok ts) h = let z : ◌≡◌ {A = ℕ} 0 1 = cc in absurd (omega arith)
      by (Err x) h = let same : x ≡ e = cc in ap Err same

-- a rule that stands at the front
pub at_front : (r : Result RuleView RuleFault) (p : ℕ) (h : Header) → r ≡ rule_under p h → p ≡ 0 → r ≡ rule_under 0 h
at_front r p h e start = e ∙ ap (λ n. rule_under n h) start

one_more : (g : ℕ) → 1 + g ≡ suc g
one_more g = omega arith

none_more : (g : ℕ) → 0 + g ≡ g
none_more g = omega arith

-- the rule that is made of a header at p and two parts, the first of them at q
abbrev pub made_rule : ℕ → ℕ → Header → List ℕ → List ℕ → RuleView
made_rule p q h head goals =
    record { place = p; variables = h.variables; goals = h.goals; head = head; head_place = q; body = goals; body_place = q + length head }

-- the header h at p, and its frame at q
module _ (p q : ℕ) (h : Header) (bs : List ℕ) (e : Ok bs ≡ frame_bytes p h) (at : q ≡ p + header_size) where
  -- a body of m terms and the goals
  under : (m due : ℕ) → m + h.goals ≡ due → body due p h ≡ used_up (terms h.variables (m + h.goals) (commands Rules q bs))
  under m due k =
      in_frame due p h bs e
      ∙ ap₂ (λ n r. used_up (terms h.variables n (commands Rules r bs))) (sym k) (sym at)

  pub rule_refused : {T : Type 0} (f : T → RuleView) (r : Result T RuleFault) (x y : RuleFault) → r ≡ Err x → x ≡ y
      → Err y ≡ parts_read h.variables 1 h.goals q bs → seen f r ≡ rule_under p h
  rule_refused f r x y i j k =
      ap (seen f) (i ∙ ap Err j)
      ∙ ap (λ s. go s (λ e. e) (λ ts. Ok (rule_shown p (rule_of h.variables ts))))
      (sym (under 1 (rule_due h) (one_more h.goals) ∙ found h.variables 1 h.goals q bs y k))

  pub rule_read : (head goals : List ℕ) → Ok (head, goals) ≡ parts_read h.variables 1 h.goals q bs → Ok (made_rule p q h head goals) ≡ rule_under p h
  rule_read head goals k =
      let z = comes h.variables 1 h.goals q bs head goals k in
      ap Ok (by z.ts z.count z.first z.others)
      ∙ ap (λ s. go s (λ e. e) (λ ts. Ok (rule_shown p (rule_of h.variables ts)))) (sym (under 1 (rule_due h) (one_more h.goals) ∙ z.read))
    where
      by : (ts : List Term) → length ts ≡ 1 + h.goals → head ≡ encodings Rules (take 1 ts) → goals ≡ encodings Rules (drop 1 ts)
          → made_rule p q h head goals ≡ rule_shown p (rule_of h.variables ts)
      by [] c i j = absurd (omega arith)
      by (t ∷ ts) c i j =
          let count : h.goals ≡ length ts = omega arith in
          let whole : head ≡ encoding Rules t = i ∙ append-nil (encoding Rules t) in
          λ k. record { place = p; variables = h.variables; goals = count k; head = whole k; head_place = at k; body = j k; body_place = at k + length (whole k) }

  -- the same of a query, at the front
  module _ (start : p ≡ 0) where
    under_query : body (query_due h) 0 h ≡ used_up (terms h.variables (0 + h.goals) (commands Rules q bs))
    under_query = ap (λ r. body (query_due h) r h) (sym start) ∙ under 0 (query_due h) (none_more h.goals)

    pub query_refused : {T : Type 0} (f : T → QueryView) (r : Result T RuleFault) (x y : RuleFault) → r ≡ Err x → x ≡ y
        → Err y ≡ parts_read h.variables 0 h.goals q bs → seen f r ≡ query_under h
    query_refused f r x y i j k =
        ap (seen f) (i ∙ ap Err j)
        ∙ ap (λ s. go s (λ e. e) (λ ts. Ok (query_shown (query_of h.variables ts)))) (sym (under_query ∙ found h.variables 0 h.goals q bs y k))

    pub query_read : (head goals : List ℕ) → Ok (head, goals) ≡ parts_read h.variables 0 h.goals q bs
        → Ok (record { variables = h.variables; goals = h.goals; body = goals; body_place = header_size }) ≡ query_under h
    query_read head goals k =
        let z = comes h.variables 0 h.goals q bs head goals k in
        let count : h.goals ≡ length z.ts = omega (arith, z.count) in
        (λ i. Ok (record { variables = h.variables; goals = count i; body = z.others i; body_place = header_size }))
        ∙ ap (λ s. go s (λ e. e) (λ ts. Ok (query_shown (query_of h.variables ts)))) (sym (under_query ∙ z.read))
