use Rattle.std.proofs.Common.{◌∙◌}
use Rattle.stores.specs.Begun.{begun}
use Rattle.stores.proofs.Shelved.{few_begun, count_is}
use Rattle.stores.proofs.rulebooks.RuleBookTexts.count.Goals as goal

pub returns : goal.returns
returns c =
    let b = c.args.self.now in
    c.count.ensures ∙ count_is b.image.now.bytes.now (begun b.begins) b.known b.placed (few_begun b.begins.count b.begins.places b.begins.few)
