use Rattle.resolution.proofs.none_means_none.Goals as goal
use Rattle.resolution.proofs.Completeness.{none_means_none}

pub returns : goal.returns
returns c = none_means_none
