use Rattle.std.proofs.Common.{◌≡◌, ◌<◌, List, length, ap, arith}
use Rattle.branches.specs.declared.Clause.{Clause}
use Rattle.branches.specs.Clauses.{clause}
use Rattle.machine.specs.Branches.{taken}
use Rattle.machine.specs.Machines.{state}
use Rattle.machine.proofs.States.{true_good, cells_room, nothing_due, no_rule_due, deep_due, cells_due, rule_due}
use Rattle.machine.proofs.machine.Machine.due.Goals as goal
use Rattle.machine.proofs.machine.Machine.due.Goals.{After-deref}

shallow : (c : After-deref) → length (taken c.args.self.now.tables.branch) < 512
shallow c = omega (arith, c.depth.ensures, c.if-depth-from.false)

is : (c : After-deref) → clause c.deref.result.now c.args.self.now.due ≡ clause c.args.self.now.clauses.items c.args.self.now.due
is c = ap (λ (cs : List Clause). clause cs c.args.self.now.due) c.deref.ensures.0

pub returns-then-self-eq0 : goal.returns-then-self-eq0
returns-then-self-eq0 c = nothing_due (state c.args.self.now) (true_good (state c.args.self.now) c.args.self.now.kept) (omega arith)

pub returns-then-self-len : goal.returns-then-self-len
returns-then-self-len c = no_rule_due (state c.args.self.now) (true_good (state c.args.self.now) c.args.self.now.kept) (omega arith) (omega arith)

pub depth-requires : goal.depth-requires
depth-requires c = (true_good (state c.args.self.now) c.args.self.now.kept).depth

pub returns-then-depth-from : goal.returns-then-depth-from
returns-then-depth-from c =
    deep_due (state c.args.self.now) (true_good (state c.args.self.now) c.args.self.now.kept) (omega arith) (omega arith) (omega (arith, c.depth.ensures, c.if-depth-from.true))

pub overflow_sub-self : goal.overflow_sub-self
overflow_sub-self c = cells_room (state c.args.self.now) (true_good (state c.args.self.now) c.args.self.now.kept)

pub returns-then-from-self : goal.returns-then-from-self
returns-then-from-self c =
    let d = (goal.at.returns-then-from-self c).After-deref in
    cells_due (state c.args.self.now) (true_good (state c.args.self.now) c.args.self.now.kept) _ (is d) (omega arith) (omega arith) (shallow d) (omega arith)

pub returns : goal.returns
returns c =
    let d = (goal.at.returns c).After-deref in
    rule_due (state c.args.self.now) (true_good (state c.args.self.now) c.args.self.now.kept) _ (is d) (omega arith) (omega arith) (shallow d) (omega arith)
