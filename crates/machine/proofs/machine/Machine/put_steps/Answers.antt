use Rattle.std.proofs.Common.{◌≡◌, ◌<◌, List, length, get_or, ap, ◌∙◌, arith}
use Rattle.branches.specs.declared.Step.{Step}
use Rattle.branches.specs.declared.Clause.{Clause}
use Rattle.branches.specs.Clauses.{clause}
use Rattle.machine.specs.Branches.{taken}
use Rattle.machine.specs.States.{Good}
use Rattle.machine.specs.Machines.{state}
use Rattle.machine.proofs.Climbs.{no_step}
use Rattle.machine.proofs.States.{true_good}
use Rattle.machine.proofs.Writings.{no_step_put, steps_put, step_rule, step_met, step_inside, step_put, step_over}
use Rattle.machine.proofs.machine.Machine.put_steps.Goals as goal
use Rattle.machine.proofs.machine.Machine.put_steps.Goals.{After-deref}

module _ (c : After-deref) where
  -- the step that is put, and its clause
  abbrev step : Step
  step = get_or c.taken-step-items.result.now c.loop-step.step-index no_step

  abbrev of_step : Clause
  of_step = clause c.deref.result.now step.rule

  in_order : Good (state c.args.self.now)
  in_order = true_good (state c.args.self.now) c.args.self.now.kept

  there : c.loop-step.step-index < length (taken c.args.self.now.tables.branch)
  there = omega (arith, c.loop-step-test.true, ap length c.taken-step-items.ensures)

  step_is : step ≡ get_or (taken c.args.self.now.tables.branch) c.loop-step.step-index no_step
  step_is = ap (λ (ss : List Step). get_or ss c.loop-step.step-index no_step) c.taken-step-items.ensures

  clause_is : of_step ≡ clause c.args.self.now.clauses.items step.rule
  clause_is = ap (λ (cs : List Clause). clause cs step.rule) c.deref.ensures.0

pub loop-step-init : goal.loop-step-init
loop-step-init c = no_step_put (state c.args.self.now) c.args.view.now c.args.writer.now c.requires.room c.requires.met

pub bounds-deref-step : goal.bounds-deref-step
bounds-deref-step c =
    let d = (goal.at.bounds-deref-step c).After-deref in
    let r = step_rule (state c.args.self.now) (in_order d) c.args.view.now c.requires.lent c.loop-step.step-index (there d) (step d) (step_is d) in
    omega (arith, r, ap length c.deref.ensures.0)

pub write_step-requires : goal.write_step-requires
write_step-requires c =
    let s = state c.args.self.now in
    let d = (goal.at.write_step-requires c).After-deref in
    let v = c.args.view.now in
    record {
      inside = step_inside s (in_order d) v c.requires.lent c.loop-step.step-index (there d) (step d) (step_is d) (of_step d) (clause_is d);
      met = step_met s (in_order d) v c.requires.lent c.loop-step.step-index (there d) (step d) (step_is d) c.loop-step.invariant;
    }

pub returns-in_err-write_step : goal.returns-in_err-write_step
returns-in_err-write_step c =
    let s = state c.args.self.now in
    let d = (goal.at.returns-in_err-write_step c).After-deref in
    record {
      same = c.in_err-write_step.ensures.same ∙ c.loop-step.invariant.same;
      puts =
          step_over s (in_order d) c.args.view.now c.requires.lent c.loop-step.step-index (there d) (step d) (step_is d) (of_step d) (clause_is d)
          c.loop-step.invariant c.in_err-write_step.ensures.puts c.from_residual.ensures.0;
    }

pub loop-step-preserved : goal.loop-step-preserved
loop-step-preserved c =
    let s = state c.args.self.now in
    let d = (goal.at.loop-step-preserved c).After-deref in
    step_put s (in_order d) c.args.view.now c.requires.lent c.loop-step.step-index (there d) (step d) (step_is d) (of_step d) (clause_is d)
    c.loop-step.invariant c.in_ok-write_step.ensures.same c.in_ok-write_step.ensures.puts c.in_ok-write_step.ensures.met

pub returns : goal.returns
returns c =
    let s = state c.args.self.now in
    record {
      same = c.loop-step.invariant.same;
      puts =
          steps_put s (true_good s c.args.self.now.kept) c.args.view.now c.requires.lent c.loop-step.step-index
          (omega (arith, c.loop-step-test.false, ap length c.taken-step-items.ensures)) c.loop-step.invariant;
    }

pub taken-step-items-requires : goal.taken-step-items-requires
taken-step-items-requires c = (true_good (state c.args.self.now) c.args.self.now.kept).depth
