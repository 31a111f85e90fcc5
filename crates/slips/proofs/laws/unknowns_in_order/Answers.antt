use Rattle.slips.proofs.laws.unknowns_in_order.Goals as goal
use Rattle.slips.proofs.Unknowns.{unknowns_in_order}

pub returns : goal.returns
returns c = unknowns_in_order
