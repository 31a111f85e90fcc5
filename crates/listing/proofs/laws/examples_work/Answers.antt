use Rattle.listing.proofs.Examples.{worked}
use Rattle.listing.proofs.laws.examples_work.Goals as goal

pub returns : goal.returns
returns c = worked
