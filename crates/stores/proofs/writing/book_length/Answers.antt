use Rattle.std.proofs.Common.{◌≡◌, ◌+◌, ◌<◌, ◌≤◌, [], length, get_or, Ok, unwrap_or, ap, ◌∙◌, arith}
use Rattle.grammar.proofs.Fitting.{fit_at, fit_short}
use Rattle.books.specs.Writing.{book_size}
use Rattle.stores.proofs.Copied.{size_is, size_more, size_all, too_large, is_sized}
use Rattle.stores.proofs.writing.book_length.Goals as goal

pub loop-rule-preserved : goal.loop-rule-preserved
loop-rule-preserved g c =
    let ts = g.S.Store.rules c.args.store.now in
    let i = c.loop-rule.rule in
    let there : i < length ts = omega (arith, c.count-count.ensures, c.loop-rule-test.true) in
    let size : c.unwrap_or.result ≡ length (get_or ts i []) =
    c.unwrap_or.ensures ∙ ap (λ o. unwrap_or o 0) (c.size.ensures ∙ size_is ts i (omega (arith, c.count-count.ensures, c.loop-rule-test.true))) in
    let short : length (get_or ts i []) ≤ 517 = fit_short (get_or ts i []) (fit_at ts i (g.S.Store.fit c.args.store.now) there) in (
      ap (λ n. c.loop-rule.length + n) size ∙ ap (λ n. n + length (get_or ts i [])) c.loop-rule.invariant.0 ∙ size_more ts i there,
      omega (arith, c.loop-rule.invariant.1),
    )

pub returns-then-length-gt-MOST_BYTES : goal.returns-then-length-gt-MOST_BYTES
returns-then-length-gt-MOST_BYTES g c =
    let ts = g.S.Store.rules c.args.store.now in
    let all : c.loop-rule.length ≡ book_size ts = c.loop-rule.invariant.0 ∙ size_all ts c.loop-rule.rule (omega (arith, c.count-count.ensures, c.loop-rule-test.false, c.if-count-gt-MOST_RULES.false)) in
    too_large ts (omega (arith, c.count-count.ensures, c.if-count-gt-MOST_RULES.false)) (omega (arith, all, c.if-length-gt-MOST_BYTES.true))

pub returns : goal.returns
returns g c =
    let ts = g.S.Store.rules c.args.store.now in
    let all : c.loop-rule.length ≡ book_size ts = c.loop-rule.invariant.0 ∙ size_all ts c.loop-rule.rule (omega (arith, c.count-count.ensures, c.loop-rule-test.false, c.if-count-gt-MOST_RULES.false)) in
    ap Ok all ∙ is_sized ts (omega (arith, c.count-count.ensures, c.if-count-gt-MOST_RULES.false)) (omega (arith, all, c.if-length-gt-MOST_BYTES.false))
