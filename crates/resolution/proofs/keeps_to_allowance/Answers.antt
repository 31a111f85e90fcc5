use Rattle.resolution.proofs.keeps_to_allowance.Goals as goal
use Rattle.resolution.proofs.Allowance.{keeps_to_allowance}

pub returns : goal.returns
returns c = keeps_to_allowance
