use Rattle.std.proofs.Common.{◌-◌, length}
use Rattle.reading.specs.Books.{book_view}
use Rattle.stores.specs.Begun.{begun}
use Rattle.stores.proofs.Opened.{Reading}
use Rattle.stores.proofs.begins.Begins.read.Given as goal

abbrev pub invariant-loop-item : goal.invariant-loop-item
invariant-loop-item l = Reading l.bytes (book_view l.book) (begun l.begins)

abbrev pub decreases-loop-item : goal.decreases-loop-item
decreases-loop-item l = length l.book.bytes.now - l.book.place
