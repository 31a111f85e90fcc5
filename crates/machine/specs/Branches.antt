-- The steps that are taken in a table. Assumes nothing.
use Rattle.std.specs.Prelude.{List, take}
use Rattle.branches.specs.declared.Step.{Step}
use Rattle.machine.specs.declared.branch.Branch.{Branch}

-- the first of the table, the oldest first
abbrev pub taken : Branch → List Step
taken b = take b.depth b.steps
