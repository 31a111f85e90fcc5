use Rattle.slips.proofs.laws.in_order.Goals as goal
use Rattle.slips.proofs.Given.{in_order}

pub returns : goal.returns
returns c = in_order
