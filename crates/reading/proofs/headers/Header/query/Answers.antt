use Rattle.std.proofs.lemmas.Result.{err_from_is_err_and}
use Rattle.reading.specs.Views.{header_view, query_view}
use Rattle.reading.proofs.Under.{query_refused, query_read}
use Rattle.reading.proofs.headers.Header.query.Goals as goal

pub returns-in_err-body : goal.returns-in_err-body
returns-in_err-body c =
    let p = err_from_is_err_and c.from_residual-in_err-body.result c.from_residual-in_err-body.ensures.1 in
    let frame = c.in_ok-frame.ensures in
    query_refused c.args.self.now.place c.in_ok-frame.frame.place (header_view c.args.self.now) c.in_ok-frame.frame.bytes.now frame.value frame.place c.requires
    query_view _ _ _ p.1 p.2 c.in_err-body.ensures.value

pub returns : goal.returns
returns c =
    let frame = c.in_ok-frame.ensures in
    query_read c.args.self.now.place c.in_ok-frame.frame.place (header_view c.args.self.now) c.in_ok-frame.frame.bytes.now frame.value frame.place c.requires
    c.in_ok-body.field-0-0.now c.in_ok-body.body.now c.in_ok-body.ensures.value
