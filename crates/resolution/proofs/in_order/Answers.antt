use Rattle.resolution.proofs.in_order.Goals as goal
use Rattle.resolution.proofs.Order.{in_order}

pub returns : goal.returns
returns c = in_order
