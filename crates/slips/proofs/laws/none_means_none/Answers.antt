use Rattle.slips.proofs.laws.none_means_none.Goals as goal
use Rattle.slips.proofs.Given.{none_means_none}

pub returns : goal.returns
returns c = none_means_none
