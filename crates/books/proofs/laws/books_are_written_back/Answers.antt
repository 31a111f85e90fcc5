use Rattle.books.proofs.Back.{written_back}
use Rattle.books.proofs.laws.books_are_written_back.Goals as goal

pub returns : goal.returns
returns c = written_back
