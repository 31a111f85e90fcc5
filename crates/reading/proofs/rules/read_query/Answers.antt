use Rattle.std.proofs.lemmas.Result.{err_from_is_err_and}
use Rattle.grammar.specs.Singles.{query_byte, query_due, query_of}
use Rattle.reading.specs.Views.{header_view, query_view, query_shown}
use Rattle.reading.proofs.Alone.{body_refused, end_refused, read}
use Rattle.reading.proofs.rules.read_query.Goals as goal

pub returns-in_err-query : goal.returns-in_err-query
returns-in_err-query c =
    let p = err_from_is_err_and c.from_residual-in_err-query.result c.from_residual-in_err-query.ensures.1 in
    body_refused query_byte query_due query_of query_shown c.args.bytes.now (header_view c.in_ok-header.header) c.in_ok-header.ensures.value
    query_view _ _ _ p.1 p.2 c.in_err-query.ensures

pub returns-in_err-end : goal.returns-in_err-end
returns-in_err-end c =
    let p = err_from_is_err_and c.from_residual-in_err-end.result c.from_residual-in_err-end.ensures.1 in
    end_refused query_byte query_due query_of query_shown c.args.bytes.now (header_view c.in_ok-header.header) c.in_ok-header.ensures.value
    query_view _ _ _ _ p.1 p.2 c.in_ok-query.ensures c.in_err-end.ensures

pub returns : goal.returns
returns c =
    read query_byte query_due query_of query_shown c.args.bytes.now (header_view c.in_ok-header.header) c.in_ok-header.ensures.value
    _ _ c.in_ok-query.ensures c.in_ok-end.ensures
