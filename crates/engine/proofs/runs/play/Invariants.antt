use Rattle.std.proofs.Common.{◌≡◌}
use Rattle.engine.specs.Models.{rules_of, query_of, model}
use Rattle.engine.proofs.Carrying.{SoFar}
use Rattle.engine.proofs.runs.play.Given as goal

abbrev pub invariant-loop-slot : goal.invariant-loop-slot
invariant-loop-slot g l =
    (rules_of l.search ≡ rules_of l.initial.search)
    × (query_of l.search ≡ query_of l.initial.search)
    × SoFar (rules_of l.initial.search) (query_of l.initial.search) l.initial.slots l.slots l.slot-index (model l.initial.search) (model l.search)
