use Rattle.std.proofs.Common.{◌<◌, List}
use Rattle.bindings.specs.Cells.{Cell}
use Rattle.bindings.specs.Trails.{Since, bound_count}
use Rattle.machine.proofs.cells.unwind.Given as goal

abbrev pub invariant-loop-at : goal.invariant-loop-at
invariant-loop-at l =
    (l.at < 65536)
    × ((was : List Cell) × Since was l.mark l.cells l.at)
    × ((was : List Cell) → Since was l.mark l.initial.cells l.initial.at → Since was l.mark l.cells l.at)

abbrev pub decreases-loop-at : goal.decreases-loop-at
decreases-loop-at l = bound_count l.cells
