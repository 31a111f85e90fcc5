use Rattle.std.proofs.Common.{◌≡◌, ◌-◌, length}
use Rattle.grammar.specs.Items.{book}
use Rattle.reading.specs.Views.{seen}
use Rattle.reading.specs.Books.{book_view, rule_count}
use Rattle.reading.proofs.Whole.{rest_count}
use Rattle.reading.proofs.books.count_rules.Given as goal

abbrev pub invariant-loop : goal.invariant-loop
invariant-loop l = rest_count (book_view l.book) ≡ seen rule_count (book l.bytes)

abbrev pub decreases-loop : goal.decreases-loop
decreases-loop l = length l.book.bytes.now - l.book.place
