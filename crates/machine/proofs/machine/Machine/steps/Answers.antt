use Rattle.std.proofs.Common.{sym, ◌∙◌}
use Rattle.std.proofs.lemmas.List.{length-reverse}
use Rattle.branches.proofs.Dues.{branch_length}
use Rattle.machine.specs.Branches.{taken}
use Rattle.machine.specs.Climbs.{steps_in}
use Rattle.machine.specs.Machines.{state}
use Rattle.machine.specs.States.{text_of}
use Rattle.machine.proofs.States.{true_good}
use Rattle.machine.proofs.machine.Machine.steps.Goals as goal

pub returns : goal.returns
returns c =
    let s = state c.args.self.now in
    c.depth.ensures
    ∙ sym (branch_length (text_of s) (steps_in s.tables) s.tables.cells.table s.tables.cells.newest ∙ length-reverse (taken s.tables.branch))

pub depth-requires : goal.depth-requires
depth-requires c = (true_good (state c.args.self.now) c.args.self.now.kept).depth
