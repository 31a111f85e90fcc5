use Rattle.std.proofs.Common.{◌≡◌, ◌-◌, ◌<◌, length, ◌∙◌}
use Rattle.reading.specs.Books.{item_view, book_view}
use Rattle.reading.proofs.Whole.{rest_count, goes_on}
use Rattle.reading.proofs.books.count_rules.Goals as goal
use Rattle.reading.proofs.books.count_rules.Goals.{Then-is_some}

at_item : (c : Then-is_some)
    → (rest_count (book_view c.item.new.self) ≡ rest_count (book_view c.loop.book))
    × (length c.item.new.self.bytes.now - c.item.new.self.place < length c.loop.book.bytes.now - c.loop.book.place)
at_item c =
    let h = c.in_ok-item.ensures in
    goes_on item_view (book_view c.loop.book) (book_view c.item.new.self) c.in_ok-item.field-0 c.if-is_some.ensures h.value h.after

pub loop-preserved : goal.loop-preserved
loop-preserved c = (at_item (goal.at.loop-preserved c).Then-is_some).0 ∙ c.loop.invariant
