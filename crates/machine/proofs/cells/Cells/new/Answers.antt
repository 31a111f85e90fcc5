use Rattle.std.proofs.Common.{refl}
use Rattle.bindings.proofs.Links.{filled_free}
use Rattle.machine.proofs.cells.Cells.new.Goals as goal

pub returns : goal.returns
returns c = record { free = λ i. filled_free 2048 i; used = refl; newest = refl }
