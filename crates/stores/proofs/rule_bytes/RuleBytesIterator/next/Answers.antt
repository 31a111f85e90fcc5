use Rattle.std.proofs.Common.{◌+◌, ◌<◌, arith, rules}
use Rattle.stores.proofs.Copied.{byte_short}
use Rattle.stores.proofs.rule_bytes.RuleBytesIterator.next.Goals as goal

pub overflow_add-self : goal.overflow_add-self
overflow_add-self g c =
    let s = c.args.self.now in
    let short = byte_short (g.S.Store.rules s.store.now) s.rule s.at c.in_ok-byte.byte (g.S.Store.fit s.store.now) c.in_ok-byte.ensures in
    let low : s.at + 1 < 65536 = omega arith in
    search rules
