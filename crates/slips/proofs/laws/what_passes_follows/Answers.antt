use Rattle.slips.proofs.laws.what_passes_follows.Goals as goal
use Rattle.slips.proofs.Passing.{what_passes_follows}

pub returns : goal.returns
returns c = what_passes_follows
