use Rattle.std.proofs.Common.{◌≡◌, ◌≤◌}
use Rattle.unification.specs.Variables.{occurs}
use Rattle.bindings.specs.Meanings.{size}
use Rattle.machine.specs.Views.{SeenOver, seen_as}
use Rattle.machine.proofs.view.View.+occurs.Given as goal

-- the replaced tree's size
abbrev pub decreases-occurs : goal.decreases-occurs
decreases-occurs l = size (seen_as l.self.now l.term)

abbrev pub invariant-rests : goal.invariant-rests
invariant-rests l =
    SeenOver l.self l.at
    × (size (seen_as l.self l.at) ≤ size (seen_as l.self l.initial.at))
    × (occurs l.cell (seen_as l.self l.at) ≡ occurs l.cell (seen_as l.self l.initial.at))

abbrev pub decreases-rests : goal.decreases-rests
decreases-rests l = size (seen_as l.self l.at)
