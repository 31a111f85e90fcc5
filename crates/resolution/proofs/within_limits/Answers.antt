use Rattle.resolution.proofs.within_limits.Goals as goal
use Rattle.resolution.proofs.Within.{within_limits}

pub returns : goal.returns
returns c = within_limits
