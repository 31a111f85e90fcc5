use Rattle.notation.proofs.Shown.{first_is_shown}
use Rattle.notation.proofs.laws.first_is_shown.Goals as goal

pub returns : goal.returns
returns c = first_is_shown
