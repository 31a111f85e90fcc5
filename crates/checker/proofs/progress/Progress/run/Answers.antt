use Rattle.std.proofs.Common.{◌≡◌, suc, ◌≤◌, List, Err, ap, ◌∙◌, arith}
use Rattle.std.proofs.lemmas.Result.{err_from_is_err_and}
use Rattle.terms.specs.Terms.{Term}
use Rattle.resolution.specs.Limits.{step_limit}
use Rattle.comparing.specs.Stages.{Stage}
use Rattle.comparing.specs.Runs.{counted_by}
use Rattle.comparing.proofs.Runs.{Onward, Front, front, turn, turn_fails, closes}
use Rattle.checker.specs.Texts.{sources}
use Rattle.checker.specs.Progress.{tables}
use Rattle.checker.proofs.progress.Progress.run.Given as given
use Rattle.checker.proofs.progress.Progress.run.Goals as goal
use Rattle.checker.proofs.progress.Progress.run.Goals.{In-Some, In_ok-step}

module _ (g : given.Over) (c : In-Some g) (goals : List Term) (k : Stage (sources g.S.Store.rules c.args.texts.now) (tables c.args.self.now) goals) where
  -- the goal in front
  in_front : Front (sources g.S.Store.rules c.args.texts.now) (c.loop-goal.invariant goals k) c.next_frame.new.frames.items c.in-Some.goal
  in_front =
      let o = c.loop-goal.invariant goals k in
      front (sources g.S.Store.rules c.args.texts.now) o c.next_frame.new.frames.items c.in-Some.goal (let l = c.in-Some.ensures.fewer in omega arith)
      (c.in-Some.ensures.next c.loop-goal.self.table.items o.goals_now o.stage.stacked)

pub step-requires : goal.step-requires
step-requires g c =
    let r = c.requires in
    let f = in_front g (goal.at.step-requires g c).In-Some r.0 r.1 in
    (f.goal, f.others, f.ready)

pub returns-in_err-step : goal.returns-in_err-step
returns-in_err-step g c = λ goals k.
    let p = err_from_is_err_and c.from_residual.result c.from_residual.ensures.1 in
    let f = in_front g (goal.at.returns-in_err-step g c).In-Some goals k in
    ap (counted_by c.step.new.self.steps) (p.1 ∙ ap Err p.2)
    ∙ turn_fails (sources g.S.Store.rules c.args.texts.now) (c.loop-goal.invariant goals k) c.next_frame.new.frames.items f _ (tables c.step.new.self) (c.in_err-step.ensures f.goal f.others f.ready)

-- a step that passed
passed : (g : given.Over) (c : In_ok-step g) (goals : List Term) → Stage (sources g.S.Store.rules c.args.texts.now) (tables c.args.self.now) goals
    → Onward (sources g.S.Store.rules c.args.texts.now) (tables c.args.self.now) goals (tables c.step.new.self) × (c.step.new.self.steps ≡ suc c.loop-goal.self.steps) × (c.step.new.self.steps ≤ step_limit)
passed g c goals k =
    let f = in_front g (goal.at.In_ok-step g c).In-Some goals k in
    turn (sources g.S.Store.rules c.args.texts.now) (c.loop-goal.invariant goals k) c.next_frame.new.frames.items f (tables c.step.new.self) (c.in_ok-step.ensures f.goal f.others f.ready)

pub loop-goal-smaller : goal.loop-goal-smaller
loop-goal-smaller g c =
    let r = c.requires in
    let k = passed g (goal.at.loop-goal-smaller g c).In_ok-step r.0 r.1 in
    omega (arith, k.1, k.2)

pub loop-goal-preserved : goal.loop-goal-preserved
loop-goal-preserved g c = λ goals k. (passed g (goal.at.loop-goal-preserved g c).In_ok-step goals k).0

pub returns : goal.returns
returns g c = λ goals k.
    let o = c.loop-goal.invariant goals k in
    closes (sources g.S.Store.rules c.args.texts.now) o c.close.result c.close.ensures (c.in_default.ensures.next c.loop-goal.self.table.items o.goals_now o.stage.stacked)
