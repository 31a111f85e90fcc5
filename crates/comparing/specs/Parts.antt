-- The parts of a slip that are no terms, each with the fault where it is not there. Assumes nothing.
use Rattle.std.specs.Prelude.{ℕ, ◌+◌, List, drop, Ok, Result, nat_lt}
use Rattle.terms.specs.Terms.{Rule}
use Rattle.grammar.specs.declared.faults.RuleFault.TheVariants.{Command}
use Rattle.grammar.specs.Asking.{ask, go}
use Rattle.resolution.specs.Limits.{step_limit}
use Rattle.slips.specs.declared.faults.SlipFault.{SlipFault}
use Rattle.slips.specs.declared.faults.SlipFault.TheVariants.{Reading, Opening, NoStep, TooManySteps, NoRule, NoEnd}
use Rattle.slips.specs.Slips.{step_byte, end_byte}
use Rattle.slips.specs.Checker.{begins, is_only, opens, step_operands, step_size, has_rule}
use Rattle.comparing.specs.declared.StepStart.{StepStart}

-- the slip opens for a query with v variables
abbrev pub opened : ℕ → List ℕ → Result Unit SlipFault
opened v slip = ask (opens v slip) Opening (Ok tt)

-- how a step at p with these operands begins
abbrev pub step_start : ℕ → ℕ × ℕ → StepStart
step_start p o = record { rule = o.0; count = o.1; terms = p + step_size }

-- a step at p, by the bytes from there on
abbrev pub step_begun : ℕ → List ℕ → Result StepStart SlipFault
step_begun p bs = ask (begins step_byte bs) (NoStep p) (go (step_operands p (drop 1 bs)) (λ e. Reading (Command e)) (λ o. Ok (step_start p o)))

-- the slip ends at p, by the bytes from there on
abbrev pub closed : ℕ → List ℕ → Result Unit SlipFault
closed p bs = ask (is_only end_byte bs) (NoEnd p) (Ok tt)

-- a step at p that has room after n others, and whose rule is there
abbrev pub step_chosen : List Rule → List ℕ → ℕ → ℕ → Result StepStart SlipFault
step_chosen rs slip n p =
    go (step_begun p (drop p slip)) (λ e. e) (λ o.
    ask (nat_lt n step_limit) (TooManySteps p)
    (ask (has_rule rs o.rule o.count) (NoRule p) (Ok o)))
