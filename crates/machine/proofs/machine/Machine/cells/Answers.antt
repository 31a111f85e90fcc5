use Rattle.std.proofs.Common.{sym}
use Rattle.bindings.specs.Trails.{trail}
use Rattle.bindings.proofs.Presents.{presents_length}
use Rattle.machine.specs.Machines.{state}
use Rattle.machine.specs.States.{text_of}
use Rattle.machine.proofs.machine.Machine.cells.Goals as goal

pub returns : goal.returns
returns c =
    let s = state c.args.self.now in
    sym (presents_length (trail (text_of s) s.tables.cells.table s.tables.cells.newest) s.tables.cells.used)
