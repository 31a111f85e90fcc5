use Rattle.notation.proofs.Shown.{all_are_shown}
use Rattle.notation.proofs.laws.all_are_shown.Goals as goal

pub returns : goal.returns
returns c = all_are_shown
