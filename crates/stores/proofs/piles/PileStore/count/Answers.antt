use Rattle.std.proofs.Common.{◌+◌, min, ◌∙◌, ap₂}
use Rattle.stores.specs.Answers.{no_number}
use Rattle.stores.proofs.Piled.{count_both}
use Rattle.stores.proofs.piles.PileStore.count.Goals as goal

pub returns : goal.returns
returns g c =
    c.saturating_add.ensures
    ∙ ap₂ (λ m n. min (m + n) no_number) c.count.ensures c.count-2.ensures
    ∙ count_both (g.U.Store.rules c.args.self.now.upper) (g.L.Store.rules c.args.self.now.lower)
