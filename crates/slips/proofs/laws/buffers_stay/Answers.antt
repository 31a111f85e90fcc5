use Rattle.slips.proofs.laws.buffers_stay.Goals as goal
use Rattle.slips.proofs.Runs.{buffers_stay}

pub returns : goal.returns
returns c = buffers_stay
