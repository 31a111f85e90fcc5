use Rattle.std.proofs.Common.{length, ap, arith}
use Rattle.boards.proofs.Laid.{count_held}
use Rattle.boards.proofs.tables.Table.count.Goals as goal

pub returns : goal.returns
returns c =
    let t = c.self.inside in
    omega (arith, c.len.ensures.value, c.len.ensures.fits, count_held t.ends.items t.bytes.items _ c.self.invariant, ap length c.self.view_is)
