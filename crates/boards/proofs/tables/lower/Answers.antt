use Rattle.std.proofs.Common.{◌-◌, get_or, arith}
use Rattle.std.proofs.lemmas.List.{get_or_default}
use Rattle.std.proofs.lemmas.List.Edits.{map_over_more}
use Rattle.boards.proofs.tables.lower.Goals as goal

pub loop-end-preserved : goal.loop-end-preserved
loop-end-preserved c =
    let x = get_or c.loop-end.end-items c.loop-end.end-index 0 in
    map_over_more (λ e. e - c.args.size) c.args.ends.now c.loop-end.end-items c.loop-end.end-index x (omega arith) c.loop-end.invariant
    (get_or_default c.loop-end.end-items c.loop-end.end-index 0 x (omega arith))
