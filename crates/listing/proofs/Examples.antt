-- The worked examples compute. Assumes nothing.
use Rattle.std.proofs.Common.{refl}
use Rattle.std.specs.Fmt.{digits}
use Rattle.unification.specs.Unification.{unify}
use Rattle.resolution.specs.Lines.{lines}
use Rattle.listing.specs.Listings.{rows}
use Rattle.listing.specs.Examples.{Worked}

pub worked : Worked
unfolding rows unify lines digits
worked =
    record {
      path = refl;
      two_goals = refl;
      inside_itself_fails = refl;
      no_steps = refl;
      deep = refl;
      cells = refl;
      book_refused = refl;
      query_refused = refl;
    }
