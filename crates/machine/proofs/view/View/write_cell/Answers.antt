use Rattle.std.proofs.Common.{arith}
use Rattle.bindings.proofs.Links.{sound_free, sound_bound}
use Rattle.machine.proofs.Numberings.{writes_as}
use Rattle.machine.proofs.Views.{seen_sound}
use Rattle.machine.proofs.view.View.write_cell.Goals as goal

pub bounds : goal.bounds
bounds c = omega (arith, c.requires.inside, (seen_sound c.args.self.now).room)

pub write-requires-clause-stands : goal.write-requires-clause-stands
write-requires-clause-stands c = (sound_bound (seen_sound c.args.self.now) c.args.cell _ c.in-Some.is).2

pub returns-in-None : goal.returns-in-None
returns-in-None c = writes_as _ _ (sound_free (seen_sound c.args.self.now) c.args.cell c.in-None.is) (c.open.ensures _ c.requires.inside)

pub returns-in-Some : goal.returns-in-Some
returns-in-Some c = writes_as _ _ (sound_bound (seen_sound c.args.self.now) c.args.cell _ c.in-Some.is).0 c.write.ensures
