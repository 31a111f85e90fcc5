-- What is printed of what comes of a slip. Assumes nothing.
use Rattle.std.specs.Prelude.{ℕ, List, ◌++◌, codes, Ok, Err, Result}
use Rattle.grammar.specs.Refusals.{or_dash}
use Rattle.slips.specs.declared.faults.CheckFault.{CheckFault}
use Rattle.slips.specs.Refusals.{check_steps, check_text}

-- `passed`, or `refused` with the fault and the steps completed before it, a dash where it has none
abbrev pub verdict_text : Result Unit CheckFault → List ℕ
verdict_text (Ok u) = codes "passed"
verdict_text (Err e) = codes "refused," ++ check_text e ++ codes "," ++ or_dash (check_steps e)
