use Rattle.resolution.proofs.one_by_one.Goals as goal
use Rattle.resolution.proofs.Lines.{one_by_one}

pub returns : goal.returns
returns c = one_by_one
