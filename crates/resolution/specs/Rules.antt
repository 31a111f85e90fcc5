-- Lists of rules: a rule by its number, and which variables rules and queries may name. Assumes nothing.
use Rattle.std.specs.Prelude.{ℕ, List, [], ◌∷◌, slice_index_or}
use Rattle.terms.specs.Terms.{atom, Rule, Query}
use Rattle.unification.specs.Variables.{Within, AllWithin}

abbrev pub no_rule : Rule
no_rule = record { variables = 0; head = atom 0; goals = [] }

-- the rule with the number i
abbrev pub rule : List Rule → ℕ → Rule
rule rs i = slice_index_or rs i no_rule

-- the rule names no variable at or above its declared count
abbrev pub Closed : Rule → Type 0
Closed r = Within r.variables r.head × AllWithin r.variables r.goals

abbrev pub AllClosed : List Rule → Type 0
AllClosed [] = Unit {0}
AllClosed (r ∷ rs) = Closed r × AllClosed rs

-- every rule and the query name only variables that they declare
abbrev pub WellDeclared : List Rule → Query → Type 0
WellDeclared rs q = AllClosed rs × AllWithin q.variables q.goals
