use Rattle.machine.proofs.Turns.{Goes, weighs_in}
use Rattle.machine.proofs.guard.Guard.+unify.Given as goal

-- the replaced tree's size, and for each free cell a bound on that size
abbrev pub decreases-unify : goal.decreases-unify
decreases-unify l = weighs_in l.text.now.bytes l.self.now l.left

abbrev pub invariant-rests : goal.invariant-rests
invariant-rests l = Goes l.text.bytes l.initial.self l.self l.initial.s l.initial.t l.s l.t

abbrev pub decreases-rests : goal.decreases-rests
decreases-rests l = weighs_in l.text.bytes l.self l.s
