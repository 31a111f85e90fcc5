use Rattle.slips.proofs.laws.own_slips_pass.Goals as goal
use Rattle.slips.proofs.Standing.{own_slips_pass}

pub returns : goal.returns
returns c = own_slips_pass
