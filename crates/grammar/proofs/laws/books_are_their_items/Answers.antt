use Rattle.grammar.proofs.Rows.{books_inverse}
use Rattle.grammar.proofs.laws.books_are_their_items.Goals as goal

pub returns : goal.returns
returns c = books_inverse
