use Rattle.books.proofs.Back.{read_back}
use Rattle.books.proofs.laws.written_rules_read_back.Goals as goal

pub returns : goal.returns
returns c = read_back
