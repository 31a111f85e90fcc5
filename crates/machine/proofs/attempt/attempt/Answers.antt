use Rattle.std.proofs.Common.{◌≡◌, ℕ, List, length, ap₂, rules}
use Rattle.bindings.specs.Cells.{Cell}
use Rattle.machine.proofs.Tries.{ready_sound, ready_head, ready_goal, tried_left, tried_taken}
use Rattle.machine.proofs.attempt.attempt.Goals as goal

pub join-requires : goal.join-requires
join-requires c =
    let n : length c.args.cells.now.table ≡ 2048 = search rules in
    record { sound = ready_sound c.requires c.from.ensures n; left = ready_head c.requires c.from.ensures; right = ready_goal c.requires c.from.ensures }

pub returns-then-not-join : goal.returns-then-not-join
returns-then-not-join c =
    let no_join = c.if-not-join.true in
    tried_left c.requires c.from.ensures c.join.ensures.ends no_join _
    (ap₂ (λ (t : List Cell) (k : ℕ). record { table = t; used = c.args.cells.now.used; newest = k }) (c.join.ensures.cells no_join) (c.join.ensures.newest no_join))

pub returns : goal.returns
returns c = tried_taken c.requires c.from.ensures c.join.ensures.ends c.if-not-join.false (c.join.ensures.since c.if-not-join.false)
