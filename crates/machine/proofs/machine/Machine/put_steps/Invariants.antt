use Rattle.machine.proofs.Writings.{Stepped}
use Rattle.machine.specs.Machines.{state}
use Rattle.machine.proofs.machine.Machine.put_steps.Given as goal

abbrev pub invariant-loop-step : goal.invariant-loop-step
invariant-loop-step l = Stepped (state l.self) l.view l.step-index l.initial.writer l.writer
