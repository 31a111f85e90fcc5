-- The goals that remain behind a goal, found by going up the branch. Assumes nothing.
use Rattle.std.specs.Prelude.{◌≡◌, ℕ, ◌<◌, ◌≤◌, List, reverse, length, None}
use Rattle.bindings.specs.Cells.{Cell}
use Rattle.branches.specs.declared.Clause.{Clause}
use Rattle.branches.specs.declared.Goals.{Goals}
use Rattle.branches.specs.declared.Step.{Step}
use Rattle.branches.specs.Branches.{later, remaining, RowKept, Kept}
use Rattle.machine.specs.declared.tables.Tables.{Tables}
use Rattle.machine.specs.Branches.{taken}

-- the steps of the tables, the newest first
abbrev pub steps_in : Tables → List Step
steps_in t = reverse (taken t.branch)

-- the steps are kept in order over some cells, and the goals stand over those in use
pub record RowOver (t : Tables) (g : Goals) (used : ℕ) : Type 0 where
  pub clauses : List Clause
  pub variables : ℕ
  pub cells : List Cell
  pub newest : ℕ
  pub kept : Kept t.text.bytes clauses variables (steps_in t) cells newest used
  pub row : RowKept t.text.bytes used (steps_in t) g

pub record Climbing (t : Tables) (g : Goals) : Type 0 where
  pub used : ℕ
  pub over : RowOver t g used
  pub some : 1 ≤ g.left
  pub few : t.branch.depth ≤ 512
  pub short : length t.text.bytes < 65536

-- r is what remains behind the first of the goals g
pub record Climbed (t : Tables) (g r : Goals) : Type 0 where
  pub row : (used : ℕ) → RowOver t g used → RowKept t.text.bytes used (steps_in t) r
  pub bare : r.left ≡ 0 → r.above ≡ None
  pub behind : remaining t.text.bytes (steps_in t) r ≡ later (remaining t.text.bytes (steps_in t) g)
