-- The worked examples compute. Assumes nothing.
use Rattle.std.proofs.Common.{refl}
use Rattle.std.specs.Fmt.{digits}
use Rattle.notation.specs.Examples.{Worked}

pub worked : Worked
unfolding digits
worked =
    record {
      number = refl;
      zero = refl;
      variable = refl;
      list_of_one = refl;
      list_of_two = refl;
      last_rest = refl;
      last_number = refl;
      list_in_list = refl;
      terms = refl;
      no_terms = refl;
      fact = refl;
      clause = refl;
      first_of_two = refl;
      both = refl;
      rest_missing = refl;
    }
