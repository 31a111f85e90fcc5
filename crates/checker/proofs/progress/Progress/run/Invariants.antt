use Rattle.std.proofs.Common.{◌-◌, List}
use Rattle.terms.specs.Terms.{Term}
use Rattle.comparing.specs.Stages.{Stage}
use Rattle.comparing.proofs.Runs.{Onward}
use Rattle.checker.specs.Texts.{sources}
use Rattle.checker.specs.Progress.{tables}
use Rattle.checker.proofs.progress.Progress.run.Given as goal

abbrev pub invariant-loop-goal : goal.invariant-loop-goal
invariant-loop-goal g l =
    (goals : List Term) → Stage (sources g.S.Store.rules l.texts) (tables l.initial.self) goals
    → Onward (sources g.S.Store.rules l.texts) (tables l.initial.self) goals (tables l.self)

abbrev pub decreases-loop-goal : goal.decreases-loop-goal
decreases-loop-goal g l = 512 - l.self.steps
