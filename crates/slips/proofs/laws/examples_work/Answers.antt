use Rattle.slips.proofs.laws.examples_work.Goals as goal
use Rattle.slips.proofs.Examples.{worked}

pub returns : goal.returns
returns c = worked
