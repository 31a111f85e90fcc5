use Rattle.resolution.proofs.examples_work.Goals as goal
use Rattle.resolution.proofs.Examples.{worked}

pub returns : goal.returns
returns c = worked
