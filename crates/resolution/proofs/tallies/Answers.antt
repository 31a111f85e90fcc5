use Rattle.resolution.proofs.tallies.Goals as goal
use Rattle.resolution.proofs.Counts.{tallies}

pub returns : goal.returns
returns c = tallies
