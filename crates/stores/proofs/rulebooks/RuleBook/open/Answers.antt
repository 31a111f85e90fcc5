use Rattle.std.proofs.lemmas.Result.{err_from_is_err_and}
use Rattle.grammar.specs.Items.{book}
use Rattle.stores.specs.declared.rulebooks.RuleBook.{RuleBook}
use Rattle.stores.specs.Begun.{begun, image_rules}
use Rattle.stores.proofs.Shelved.{opens, refused}
use Rattle.stores.proofs.rulebooks.RuleBook.open.Goals as goal

pub returns-in_err-begins : goal.returns-in_err-begins
returns-in_err-begins c =
    let p = err_from_is_err_and c.from_residual.result c.from_residual.ensures.1 in
    refused (λ (b : RuleBook). image_rules b.image.now) c.from_residual.result (book c.args.image.now.bytes.now) _ _ p.1 p.2 c.in_err-begins.ensures.value

pub invariant_of-result : goal.invariant_of-result
invariant_of-result c = record { known = c.in_ok-begins.ensures.known; placed = c.in_ok-begins.ensures.value }

pub returns : goal.returns
returns c = opens (book c.args.image.now.bytes.now) (begun c.in_ok-begins.begins) c.in_ok-begins.ensures.value
