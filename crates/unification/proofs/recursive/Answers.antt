use Rattle.unification.proofs.recursive.Goals as goal
use Rattle.unification.proofs.Recursion.{recursive}

pub returns : goal.returns
returns c = recursive
