-- Cells that are lent for reading are in order. Assumes nothing.
use Rattle.bindings.specs.Trails.{Sound}
use Rattle.bindings.proofs.Checks.{true_sound}
use Rattle.machine.specs.declared.view.View.{View}

pub seen_sound : (v : View) → Sound v.text.now.bytes v.used v.cells.now v.newest
seen_sound v = true_sound v.sound
