use Rattle.slips.proofs.laws.looks_leave.Goals as goal
use Rattle.slips.proofs.Runs.{looks_leave}

pub returns : goal.returns
returns c = looks_leave
