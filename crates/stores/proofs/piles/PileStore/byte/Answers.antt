use Rattle.std.proofs.Common.{Some, sym, ap, ◌∙◌}
use Rattle.stores.specs.Answers.{count_of, byte_at, of_rule}
use Rattle.stores.proofs.Piled.{below, lower}
use Rattle.stores.proofs.piles.PileStore.byte.Goals as goal

pub returns-in-Lower : goal.returns-in-Lower
returns-in-Lower g c =
    let ts = g.U.Store.rules c.args.self.now.upper in
    let us = g.L.Store.rules c.args.self.now.lower in
    let k = below (count_of ts) c.args.rule c.in-Lower.rule (ap Some (sym c.in-Lower.is) ∙ c.in_ok-rule.ensures) in
    c.byte-in-Lower.ensures ∙ ap (of_rule (byte_at c.args.at) us) k.2 ∙ lower ts us (byte_at c.args.at) c.args.rule k.0 k.1
