use Rattle.std.proofs.lemmas.Result.{err_from_is_err_and}
use Rattle.reading.specs.Views.{header_view, rule_view}
use Rattle.reading.proofs.Under.{rule_refused, rule_read}
use Rattle.reading.proofs.headers.Header.rule.Goals as goal

pub returns-in_err-head : goal.returns-in_err-head
returns-in_err-head c =
    let p = err_from_is_err_and c.from_residual-in_err-head.result c.from_residual-in_err-head.ensures.1 in
    let frame = c.in_ok-frame.ensures in
    rule_refused c.args.self.now.place c.in_ok-frame.frame.place (header_view c.args.self.now) c.in_ok-frame.frame.bytes.now frame.value frame.place
    rule_view _ _ _ p.1 p.2 c.in_err-head.ensures.value

pub returns : goal.returns
returns c =
    let frame = c.in_ok-frame.ensures in
    rule_read c.args.self.now.place c.in_ok-frame.frame.place (header_view c.args.self.now) c.in_ok-frame.frame.bytes.now frame.value frame.place
    c.in_ok-head.head.now c.in_ok-head.body.now c.in_ok-head.ensures.value
