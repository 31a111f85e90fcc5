use Rattle.std.proofs.Common.{◌≡◌, ◌+◌, ◌-◌, ◌*◌, ◌≤◌, length}
use Rattle.machine.specs.Machines.{place}
use Rattle.engine.specs.Models.{condition_of, rules_of, query_of, model}
use Rattle.engine.specs.Turns.{comes_to, Still}
use Rattle.engine.proofs.search.Search.next.Given as goal

abbrev pub invariant-lines : goal.invariant-lines
invariant-lines l =
    (l.tries ≤ l.allowance)
    × (rules_of l.self ≡ rules_of l.initial.self)
    × (query_of l.self ≡ query_of l.initial.self)
    × (l.self.tries ≡ l.initial.self.tries)
    × (l.self.answers ≡ l.initial.self.answers)
    × (comes_to (rules_of l.initial.self) l.allowance (model l.initial.self) (l.allowance - l.tries) (place l.self.machine) (condition_of l.self.condition)
    ≡ comes_to (rules_of l.initial.self) l.allowance (model l.initial.self) l.allowance (place l.initial.self.machine) (condition_of l.initial.self.condition))
    × Still (condition_of l.self.condition) (model l.self) (model l.initial.self)

abbrev pub decreases-lines : goal.decreases-lines
decreases-lines l = 2 * (l.allowance - l.tries) + length (place l.self.machine).branch
