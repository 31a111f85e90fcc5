use Rattle.grammar.proofs.Alone.{rules_inverse}
use Rattle.grammar.proofs.laws.rules_are_their_bytes.Goals as goal

pub returns : goal.returns
returns c = rules_inverse
