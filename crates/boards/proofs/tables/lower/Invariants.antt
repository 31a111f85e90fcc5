use Rattle.std.proofs.Common.{◌≡◌, ◌-◌, ◌++◌, map, take, drop}
use Rattle.boards.proofs.tables.lower.Given as goal

abbrev pub invariant-loop-end : goal.invariant-loop-end
invariant-loop-end l = l.end-items ≡ map (λ e. e - l.size) (take l.end-index l.initial.end-items) ++ drop l.end-index l.initial.end-items
