use Rattle.resolution.proofs.refuses.Goals as goal
use Rattle.resolution.proofs.Allowance.{refuses}

pub returns : goal.returns
returns c = refuses
