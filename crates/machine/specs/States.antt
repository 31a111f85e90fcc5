-- What a search's tables mean, by the definition of the search. Assumes nothing.
use Rattle.std.specs.Prelude.{◌≡◌, ℕ, ◌≤◌, Bool, true, ◌&&◌, List, length, ◌==◌, nat_le}
use Rattle.terms.specs.Terms.{Rule, Query}
use Rattle.resolution.specs.Lines.{Place}
use Rattle.branches.specs.declared.Clause.{Clause}
use Rattle.branches.specs.Rows.{row, Declared}
use Rattle.branches.specs.Clauses.{rules_at}
use Rattle.branches.specs.Branches.{At, place, InOrder}
use Rattle.branches.specs.Tests.{declared?, all_stated?, in_order?}
use Rattle.branches.specs.declared.Goals.{Goals}
use Rattle.machine.specs.declared.tables.Tables.{Tables}
use Rattle.machine.specs.declared.question.Question.{Question}
use Rattle.machine.specs.Climbs.{steps_in}

-- what a search stands on: its tables, where its rules stand, the query, the goals that remain and the rule that is due
pub record State : Type 0 where
  pub tables : Tables
  pub clauses : List Clause
  pub question : Question
  pub goals : Goals
  pub due : ℕ

-- the bytes of rules and query
abbrev pub text_of : State → List ℕ
text_of s = s.tables.text.bytes

abbrev pub rules_of : State → List Rule
rules_of s = rules_at (text_of s) s.clauses

abbrev pub query_of : State → Query
query_of s = record { variables = s.question.variables; goals = row (text_of s) s.question.place s.question.goals }

-- where the search stands, in its tables and by the definition
abbrev pub at_of : State → At
at_of s =
    record {
      steps = steps_in s.tables;
      cells = s.tables.cells.table;
      newest = s.tables.cells.newest;
      used = s.tables.cells.used;
      goals = s.goals;
      due = s.due;
    }

abbrev pub place_of : State → Place
place_of s = place (text_of s) (at_of s)

-- the tables are in order
pub record Good (s : State) : Type 0 where
  pub order : InOrder (text_of s) s.clauses s.question.variables (at_of s)
  pub stated : all_stated? (text_of s) s.clauses ≡ true
  pub asked : Declared (text_of s) s.question.variables s.question.place s.question.goals
  pub depth : s.tables.branch.depth ≤ 512
  -- a vector tells its bound only where its length is asked for, and going back does not ask
  pub count : length s.clauses ≤ 1024
  pub all_cells : length s.tables.cells.table ≡ 2048

unfoldable pub good : State → Bool
good s =
    in_order? (text_of s) s.clauses s.question.variables (at_of s)
    && (all_stated? (text_of s) s.clauses
    && (declared? (text_of s) s.question.variables s.question.place s.question.goals
    && (nat_le s.tables.branch.depth 512
    && (nat_le (length s.clauses) 1024
    && length s.tables.cells.table == 2048))))
