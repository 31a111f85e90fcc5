use Rattle.std.proofs.Common.{rules}
use Rattle.std.specs.Option.{option_map}
use Rattle.std.proofs.lemmas.Result.{err_from_is_err_and}
use Rattle.reading.specs.Books.{sized_view}
use Rattle.reading.proofs.Numbered.{rule_fails}
use Rattle.reading.proofs.books.item_at.Goals as goal

pub returns-in_err-rule-in-16 : goal.returns-in_err-rule-in-16
returns-in_err-rule-in-16 c =
    let p = err_from_is_err_and c.from_residual.result c.from_residual.ensures.1 in
    rule_fails (option_map sized_view) _ _ _ c.args.rules c.args.from.now.place c.args.from.now.bytes.now p.1 p.2 c.in_err-rule-in-16.ensures (search rules) (search rules)
