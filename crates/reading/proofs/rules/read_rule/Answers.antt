use Rattle.std.proofs.lemmas.Result.{err_from_is_err_and}
use Rattle.grammar.specs.Singles.{rule_byte, rule_due, rule_of}
use Rattle.reading.specs.Views.{header_view, rule_view, rule_shown}
use Rattle.reading.proofs.Alone.{body_refused, end_refused, read}
use Rattle.reading.proofs.Under.{at_front}
use Rattle.reading.proofs.rules.read_rule.Goals as goal

pub returns-in_err-rule : goal.returns-in_err-rule
returns-in_err-rule c =
    let p = err_from_is_err_and c.from_residual-in_err-rule.result c.from_residual-in_err-rule.ensures.1 in
    body_refused rule_byte rule_due rule_of (rule_shown 0) c.args.bytes.now (header_view c.in_ok-header.header) c.in_ok-header.ensures.value
    rule_view _ _ _ p.1 p.2 (at_front _ _ (header_view c.in_ok-header.header) c.in_err-rule.ensures c.in_ok-header.ensures.place)

pub returns-in_err-end : goal.returns-in_err-end
returns-in_err-end c =
    let p = err_from_is_err_and c.from_residual-in_err-end.result c.from_residual-in_err-end.ensures.1 in
    end_refused rule_byte rule_due rule_of (rule_shown 0) c.args.bytes.now (header_view c.in_ok-header.header) c.in_ok-header.ensures.value
    rule_view _ _ _ _ p.1 p.2 (at_front _ _ (header_view c.in_ok-header.header) c.in_ok-rule.ensures c.in_ok-header.ensures.place) c.in_err-end.ensures

pub returns : goal.returns
returns c =
    read rule_byte rule_due rule_of (rule_shown 0) c.args.bytes.now (header_view c.in_ok-header.header) c.in_ok-header.ensures.value
    _ _ (at_front _ _ (header_view c.in_ok-header.header) c.in_ok-rule.ensures c.in_ok-header.ensures.place) c.in_ok-end.ensures
