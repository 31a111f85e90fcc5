use Rattle.resolution.proofs.Ended.{ended_bare}
use Rattle.resolution.proofs.ended_bare.Goals as goal

pub returns : goal.returns
returns c = ended_bare
