use Rattle.std.proofs.Common.{◌≡◌, ◌++◌}
use Rattle.std.specs.Fmt.{HasWritten, IsPlainFormatter}
use Rattle.std.specs.List.{flat_map}
use Rattle.listing.specs.Listings.{listing}
use Rattle.listing.specs.Left.{rows_left}
use Rattle.listing.specs.Printed.{row_line}
use Rattle.listing.proofs.tables.TableDisplay.fmt.Given as goal

abbrev pub invariant-loop-row : goal.invariant-loop-row
invariant-loop-row g l =
    (goal.iterator-loop-row g).can_next l.row-iterator
    × (goal.iterator-loop-row g).is_finite l.row-iterator
    × (l.yielded ++ rows_left l.row-iterator ≡ listing l.fn.self.book.now l.fn.self.query.now)
    × (IsPlainFormatter l.initial.f → HasWritten g.W.Write.write_str_gives l.initial.f (flat_map row_line l.yielded) l.f)
