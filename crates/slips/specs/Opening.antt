-- Opening a search over a list of rules and a query, both in bytes. Assumes nothing.
use Rattle.std.specs.Prelude.{◌≡◌, ℕ, ◌+◌, List, [], ◌∷◌, map, length, Ok, Err, Result, nat_le}
use Rattle.terms.specs.Terms.{Rule, Query}
use Rattle.grammar.specs.declared.faults.SingleFault.{SingleFault}
use Rattle.grammar.specs.Asking.{ask, go}
use Rattle.grammar.specs.Singles.{rule, query}
use Rattle.grammar.specs.Items.{most_bytes, most_rules}
use Rattle.grammar.specs.Encodings.{AllBytes}
use Rattle.grammar.specs.Texts.{total}
use Rattle.resolution.specs.Rules.{no_rule}
use Rattle.slips.specs.declared.faults.OpeningFault.{OpeningFault}
use Rattle.slips.specs.declared.faults.OpeningFault.TheVariants.{InQuery, TooManyRules, TooManyBytes}

-- the rule that these bytes are
abbrev pub rule_or_none : Result Rule SingleFault → Rule
rule_or_none (Ok r) = r
rule_or_none (Err e) = no_rule

abbrev pub rules_in : List (List ℕ) → List Rule
rules_in texts = map (λ (bs : List ℕ). rule_or_none (rule bs)) texts

-- each text passes the questions for a single rule
abbrev pub AllRules : List (List ℕ) → Type 0
AllRules [] = Unit {0}
AllRules (bs ∷ texts) = AllBytes bs × ((r : Rule) × (rule bs ≡ Ok r)) × AllRules texts

-- the rules and the query that a search is opened with
pub record Opened : Type 0 where
  pub rules : List Rule
  pub query : Query

-- the query is read, then the rules are counted, and then the bytes of rules and query together
abbrev pub opening : List (List ℕ) → List ℕ → Result Opened OpeningFault
opening texts bs =
    go (query bs) InQuery (λ q.
    ask (nat_le (length texts) most_rules) TooManyRules
    (ask (nat_le (total texts + length bs) most_bytes) TooManyBytes
    (Ok (record { rules = rules_in texts; query = q }))))
