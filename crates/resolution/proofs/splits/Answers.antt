use Rattle.resolution.proofs.splits.Goals as goal
use Rattle.resolution.proofs.Allowance.{splits}

pub returns : goal.returns
returns c = splits
