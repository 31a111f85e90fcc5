use Rattle.machine.specs.Machines.{state}
use Rattle.machine.proofs.States.{true_good}
use Rattle.machine.proofs.machine.Machine.view.Goals as goal

pub view-requires : goal.view-requires
view-requires c = (true_good (state c.args.self.now) c.args.self.now.kept).order.sound
