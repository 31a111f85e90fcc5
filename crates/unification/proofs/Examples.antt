-- The worked examples compute. Assumes nothing.
use mathlib.Core.Path.{refl}
use Rattle.unification.specs.Unification.{unify}
use Rattle.unification.specs.Examples.{Worked}

pub worked : Worked
unfolding unify
worked =
    record {
      left_is_bound = refl;
      right_is_bound = refl;
      itself = refl;
      same_atom = refl;
      other_atom = refl;
      atom_and_pair = refl;
      occurs_in_it = refl;
      occurs_in_it_later = refl;
      one_term_for_both = refl;
      rests_in_turn = refl;
    }
