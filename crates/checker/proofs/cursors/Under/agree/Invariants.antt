use Rattle.comparing.specs.Cursors.{weight}
use Rattle.comparing.proofs.Texts.{Goes_on}
use Rattle.checker.specs.Texts.{sources}
use Rattle.checker.proofs.cursors.Under.agree.Given as goal

abbrev pub invariant-loop-due : goal.invariant-loop-due
invariant-loop-due g l = Goes_on (sources g.S.Store.rules l.self.texts.now) l.self.table.now l.initial.head l.initial.goal l.head l.goal l.due

abbrev pub decreases-loop-due : goal.decreases-loop-due
decreases-loop-due g l = weight l.self.texts.now.slip.now l.head
