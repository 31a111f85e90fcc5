use Rattle.grammar.proofs.Alone.{queries_inverse}
use Rattle.grammar.proofs.laws.queries_are_their_bytes.Goals as goal

pub returns : goal.returns
returns c = queries_inverse
