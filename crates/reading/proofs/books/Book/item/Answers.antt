use Rattle.std.proofs.Common.{◌+◌, ◌<◌, Ok, sym, ap, ◌∙◌, arith, rules}
use Rattle.std.specs.Option.{option_map}
use Rattle.reading.specs.Books.{sized_view}
use Rattle.reading.proofs.Sizes.{sized_inside}
use Rattle.reading.proofs.books.Book.item.Goals as goal

pub overflow_add-self : goal.overflow_add-self
overflow_add-self c =
    let next = c.from_place-next in
    let inside =
    sized_inside c.args.self.now.rules next.result.place next.result.bytes.now (sized_view (c.in-Some.item, c.in-Some.size))
    (ap (λ o. Ok (option_map sized_view o)) (sym c.in-Some.is) ∙ c.in_ok-item.ensures) in
    let ends : c.args.self.now.place + c.in-Some.size < 18446744073709551616 = omega (arith, inside, next.ensures.place, next.result.counted) in
    search rules
