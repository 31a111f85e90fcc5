use Rattle.unification.proofs.Examples.{worked}
use Rattle.unification.proofs.examples_work.Goals as goal

pub returns : goal.returns
returns c = worked
