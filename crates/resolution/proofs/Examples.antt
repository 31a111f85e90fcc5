-- The worked examples compute. Assumes nothing.
use Rattle.std.proofs.Common.{refl}
use Rattle.unification.specs.Unification.{unify}
use Rattle.resolution.specs.Lines.{lines}
use Rattle.resolution.specs.Examples.{Worked}

pub worked : Worked
unfolding unify lines
worked =
    record {
      path = refl;
      path_rules = refl;
      path_cells = refl;
      path_parts = refl;
      path_tallies = refl;
      second_goal = refl;
      second_goal_rules = refl;
      bindings_undone = refl;
      occurs_in_it = refl;
      nothing_to_show = refl;
      spent_at_512 = refl;
      deep_at_513 = refl;
      answer_at_512_steps = refl;
      cells_after_32 = refl;
      cells_after_31 = refl;
      deep_before_cells = refl;
      tries_held = refl;
      answers_held = refl;
    }
