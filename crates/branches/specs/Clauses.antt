-- Rules that stand in a text. Assumes nothing.
use Rattle.std.specs.Prelude.{ℕ, List, map, slice_index_or}
use Rattle.terms.specs.Terms.{Rule}
use Rattle.bindings.specs.Texts.{tree, Declares}
use Rattle.branches.specs.declared.Clause.{Clause}
use Rattle.branches.specs.Rows.{row, Declared}

abbrev pub no_clause : Clause
no_clause = record { head = 0; body = 0; variables = 0; goals = 0 }

-- the clause with the number i
abbrev pub clause : List Clause → ℕ → Clause
clause cs i = slice_index_or cs i no_clause

-- the rule that a clause is
abbrev pub rule_at : List ℕ → Clause → Rule
rule_at text c = record { variables = c.variables; head = tree text c.head; goals = row text c.body c.goals }

abbrev pub rules_at : List ℕ → List Clause → List Rule
rules_at text cs = map (rule_at text) cs

-- head and goals stand in the text and name only declared variables
pub record Stated (text : List ℕ) (c : Clause) : Type 0 where
  pub head : Declares text c.variables c.head
  pub goals : Declared text c.variables c.body c.goals
