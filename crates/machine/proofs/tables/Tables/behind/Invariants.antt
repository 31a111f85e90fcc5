use Rattle.std.proofs.Common.{◌≡◌, ℕ, ◌≤◌}
use Rattle.branches.specs.Branches.{later, remaining}
use Rattle.machine.specs.Climbs.{steps_in, RowOver}
use Rattle.machine.proofs.Climbs.{steps_above}
use Rattle.machine.proofs.tables.Tables.behind.Given as goal

abbrev pub invariant-up : goal.invariant-up
invariant-up l =
    (1 ≤ l.at.left)
    × ((used : ℕ) → RowOver l.self l.initial.at used → RowOver l.self l.at used)
    × (later (remaining l.self.text.bytes (steps_in l.self) l.at) ≡ later (remaining l.self.text.bytes (steps_in l.self) l.initial.at))

abbrev pub decreases-up : goal.decreases-up
decreases-up l = steps_above l.at.above
