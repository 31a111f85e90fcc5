use Rattle.notation.proofs.Examples.{worked}
use Rattle.notation.proofs.laws.examples_work.Goals as goal

pub returns : goal.returns
returns c = worked
