use Rattle.unification.proofs.most_general.Goals as goal
use Rattle.unification.proofs.General.{most_general}

pub returns : goal.returns
returns c = most_general
