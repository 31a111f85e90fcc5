use Rattle.bindings.specs.Meanings.{size}
use Rattle.machine.specs.Views.{seen_as}
use Rattle.machine.proofs.Numberings.{Sofar}
use Rattle.machine.proofs.view.View.+write.Given as goal

-- the replaced tree's size
abbrev pub decreases-write : goal.decreases-write
decreases-write l = size (seen_as l.self.now l.term)

abbrev pub invariant-rests : goal.invariant-rests
invariant-rests l = Sofar l.self l.initial.writer l.writer l.initial.at l.at

abbrev pub decreases-rests : goal.decreases-rests
decreases-rests l = size (seen_as l.self l.at)
