use Rattle.std.proofs.Common.{◌≡◌, map, take}
use Rattle.branches.specs.declared.Step.{Step}
use Rattle.machine.specs.Branches.{taken}
use Rattle.machine.proofs.machine.Machine.numbers.Given as goal

abbrev pub invariant-loop-step : goal.invariant-loop-step
invariant-loop-step l = l.numbers.items ≡ map (λ (s : Step). s.rule) (take l.step-index (taken l.self.tables.branch))
