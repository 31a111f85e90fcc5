-- The worked examples compute. Assumes nothing.
use Rattle.std.proofs.Common.{◌≡◌, Bool, true, false, ◌&&◌, ltb, length, refl}
use Rattle.unification.specs.Unification.{unify}
use Rattle.resolution.specs.Lines.{lines}
use Rattle.slips.specs.Examples.{Written, Limited, Checked, Long, OpeningTold, Worked}

and_false : (b : Bool) → b && false ≡ false
and_false true = refl
and_false false = refl

written : Written
unfolding unify lines
written =
    record {
      rule_in_bytes = refl;
      path = refl;
      second_slip = refl;
      two_goals_slip = refl;
      one_unknown = refl;
      by_first_appearance = refl;
      unknowns_over_the_slip = refl;
      no_goal = refl;
      inside_itself_fails = refl;
    }

limited : Limited
unfolding unify lines
limited =
    record {
      spent_at_512 = refl;
      deep_at_513 = refl;
      cells_after_32 = refl;
      cells_after_31 = refl;
    }

checked : Checked
unfolding unify lines
checked =
    record {
      passes = refl;
      second_passes = refl;
      two_goals_pass = refl;
      any_unknowns = refl;
      cut = (_, refl, refl, refl, refl, refl);
      other_rule = (_, refl, refl, refl, refl, refl);
      goals_in_order = (_, refl, refl, refl, refl, refl);
      other_unknown = (_, refl, refl, refl, refl, refl);
      query_first = (_, refl, refl, refl, refl, refl);
      no_slip = (_, refl, refl, refl, refl, refl);
      opening_alone = (_, refl, refl, refl, refl, refl);
      other_count = (_, refl, refl, refl, refl, refl);
      term_missing = (_, refl, refl, refl, refl, refl);
      no_term = (_, refl, refl, refl, refl, refl);
      short_term = (_, refl, refl, refl, refl, refl);
      no_step = (_, refl, refl, refl, refl, refl);
      no_step_at_end = (_, refl, refl, refl, refl, refl);
      short_step = (_, refl, refl, refl, refl, refl);
      no_such_rule = (_, refl, refl, refl, refl, refl);
      other_variables = (_, refl, refl, refl, refl, refl);
      term_missing_in_step = (_, refl, refl, refl, refl, refl);
      bytes_after_end = (_, refl, refl, refl, refl, refl);
      last_number = λ rs v. and_false (ltb 65535 (length rs));
    }

long : Long
unfolding unify lines
long =
    record {
      last_step_allowed = refl;
      one_step_more = refl;
      steps_before_rule = refl;
      operands_before_steps = refl;
      end_after_last = refl;
    }

opening_told : OpeningTold
unfolding unify lines
opening_told =
    record {
      opens = refl;
      no_query = (_, refl, refl, refl, refl);
      query_before_rules = (_, refl, refl, refl, refl);
      rules_counted = (_, refl, refl, refl, refl);
      rules_before_bytes = (_, refl, refl, refl, refl);
      most_bytes_fit = refl;
      bytes_counted = (_, refl, refl, refl, refl);
    }

pub worked : Worked
worked = record { written = written; limited = limited; checked = checked; long = long; opening_told = opening_told }
