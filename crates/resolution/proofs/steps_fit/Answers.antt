use Rattle.resolution.proofs.steps_fit.Goals as goal
use Rattle.resolution.proofs.Steps.{steps_fit}

pub returns : goal.returns
returns c = steps_fit
