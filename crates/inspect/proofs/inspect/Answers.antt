use Rattle.std.proofs.Common.{Ok, Some, refl, sym, ap, ◌∙◌}
use Rattle.std.specs.Option.{option_map}
use Rattle.reading.specs.Books.{item_view, book_view}
use Rattle.reading.proofs.Whole.{goes_on}
use Rattle.inspect.proofs.inspect.Goals as goal

pub items-smaller : goal.items-smaller
items-smaller c =
    let h = c.in-Ok-item.ensures in
    (goes_on item_view (book_view c.items.book) (book_view c.item.new.self) (Some c.in-Some.item) refl
    (ap (λ o. Ok (option_map item_view o)) (sym c.in-Some.is) ∙ h.value) h.after).1
