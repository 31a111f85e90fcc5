use Rattle.std.proofs.Common.{◌+◌, map}
use Rattle.resolution.specs.Cells.{fresh}
use Rattle.bindings.specs.Meanings.{meaning}
use Rattle.bindings.specs.Trails.{trail}
use Rattle.bindings.proofs.Presents.{cells_from}
use Rattle.machine.proofs.Numberings.{Left}
use Rattle.machine.proofs.view.View.write_cells.Given as goal

abbrev pub invariant-loop-cell : goal.invariant-loop-cell
invariant-loop-cell l =
    Left l.self.used l.initial.writer l.writer
    (map (meaning (trail l.self.text.now.bytes l.self.cells.now l.self.newest)) (fresh l.from l.count))
    (cells_from (trail l.self.text.now.bytes l.self.cells.now l.self.newest) (l.from + l.count) l.cell)
