-- A rule of a book, as an item. Assumes nothing.
use Rattle.std.proofs.Common.{◌≡◌, ℕ, ◌+◌, ◌<◌, Bool, true, false, ltb, List, [], ◌∷◌, length, get_or, drop, Some, Ok, Err, Option, Result, sym, refl, ap, ◌∙◌, arith}
use Rattle.std.proofs.lemmas.Bool.{eq-eqb, cond-true}
use Rattle.terms.specs.Terms.{Term}
use Rattle.grammar.specs.declared.faults.CommandFault.{CommandFault}
use Rattle.grammar.specs.declared.faults.RuleFault.{RuleFault}
use Rattle.grammar.specs.declared.faults.RuleFault.TheVariants.{Command}
use Rattle.grammar.specs.declared.faults.BookFault.{BookFault}
use Rattle.grammar.specs.declared.faults.BookFault.TheVariants.{Rule as InRule, TooManyRules}
use Rattle.grammar.specs.Asking.{ask, go}
use Rattle.grammar.specs.Singles.{Header, header_size, rule_byte, header, body, rule_due, rule_of}
use Rattle.grammar.specs.Items.{rule, rule_item, most_rules}
use Rattle.reading.specs.Views.{seen, RuleView, rule_shown, rule_under}
use Rattle.reading.specs.Books.{rule_item_shown, ItemView, rule_seen, first_item, sized_first}

abbrev as_item : RuleView × ℕ → Option (ItemView × ℕ)
as_item v = Some (rule_seen v.0, v.1)

-- a rule item is shown as its rule
shown_rule : (n p : ℕ) (bs : List ℕ) → sized_first p (go (rule_item n p bs) (λ e. e) (λ i. Ok (Some i))) ≡ seen as_item (rule_item_shown n p bs)
shown_rule n p bs = by (header p bs)
  where
    by_body : (h : Header) (s : Result (List Term) RuleFault)
        → sized_first p (go (go s (InRule n) (λ ts. Ok (rule (rule_of h.variables ts), 4 + h.size))) (λ e. e) (λ i. Ok (Some i)))
        ≡ seen as_item (go (go s (λ e. e) (λ ts. Ok (rule_shown p (rule_of h.variables ts)))) (InRule n) (λ v. Ok (v, header_size + h.size)))
    by_body h (Ok ts) =
        let same : 1 + (4 + h.size) ≡ header_size + h.size = omega arith in
        ap (λ m. Ok (Some (rule_seen (rule_shown p (rule_of h.variables ts)), m))) same
    by_body h (Err e) = refl

    by_count : (h : Header) (b : Bool)
        → sized_first p (go (ask b (TooManyRules p n) (go (body (rule_due h) p h) (InRule n) (λ ts. Ok (rule (rule_of h.variables ts), 4 + h.size)))) (λ e. e) (λ i. Ok (Some i)))
        ≡ seen as_item (ask b (TooManyRules p n) (go (rule_under p h) (InRule n) (λ v. Ok (v, header_size + h.size))))
    by_count h true = by_body h (body (rule_due h) p h)
    by_count h false = refl

    by : (s : Result Header CommandFault)
        → sized_first p (go (go s (λ e. InRule n (Command e)) (λ h. ask (ltb n most_rules) (TooManyRules p n) (go (body (rule_due h) p h) (InRule n) (λ ts. Ok (rule (rule_of h.variables ts), 4 + h.size))))) (λ e. e) (λ i. Ok (Some i)))
        ≡ seen as_item (go s (λ e. InRule n (Command e)) (λ h. ask (ltb n most_rules) (TooManyRules p n) (go (rule_under p h) (InRule n) (λ v. Ok (v, header_size + h.size)))))
    by (Ok h) = by_count h (ltb n most_rules)
    by (Err e) = refl

pub rule_first : (n p : ℕ) (bs : List ℕ) → 0 < length bs → get_or bs 0 0 ≡ rule_byte
    → seen (λ v. Some (rule_seen v.0, v.1)) (rule_item_shown n p (drop 1 bs)) ≡ sized_first p (first_item n p bs)
rule_first n p [] l e = absurd (omega arith)
rule_first n p (b ∷ bs) l e =
    sym (shown_rule n p bs) ∙ ap (λ r. sized_first p (go r (λ e. e) (λ i. Ok (Some i)))) (sym (cond-true _ _ _ (eq-eqb b rule_byte e)))

pub rule_fails : {T : Type 0} (f : T → Option (ItemView × ℕ)) (r : Result T BookFault) (x y : BookFault) (n p : ℕ) (bs : List ℕ) → r ≡ Err x → x ≡ y
    → Err y ≡ rule_item_shown n p (drop 1 bs) → 0 < length bs → get_or bs 0 0 ≡ rule_byte → seen f r ≡ sized_first p (first_item n p bs)
rule_fails f r x y n p bs i j k l e = ap (seen f) (i ∙ ap Err j) ∙ ap (seen as_item) k ∙ rule_first n p bs l e
