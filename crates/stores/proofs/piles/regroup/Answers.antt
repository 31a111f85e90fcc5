use Rattle.std.proofs.Common.{sym, append_assoc}
use Rattle.stores.proofs.piles.regroup.Goals as goal

pub returns : goal.returns
returns g c = sym (append_assoc (g.A.Store.rules c.args.pile.upper.upper) (g.B.Store.rules c.args.pile.upper.lower) (g.C.Store.rules c.args.pile.lower))
