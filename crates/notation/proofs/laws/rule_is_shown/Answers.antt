use Rattle.notation.proofs.Shown.{rule_is_shown}
use Rattle.notation.proofs.laws.rule_is_shown.Goals as goal

pub returns : goal.returns
returns c = rule_is_shown
