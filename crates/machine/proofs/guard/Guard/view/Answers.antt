use Rattle.bindings.proofs.Checks.{sound_true}
use Rattle.machine.proofs.guard.Guard.view.Goals as goal

pub invariant_of-result : goal.invariant_of-result
invariant_of-result c = record { sound = sound_true c.requires }
