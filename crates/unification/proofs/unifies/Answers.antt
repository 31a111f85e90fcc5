use Rattle.unification.proofs.unifies.Goals as goal
use Rattle.unification.proofs.Joins.{unifies}

pub returns : goal.returns
returns c = unifies
