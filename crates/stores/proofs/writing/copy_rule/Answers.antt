use Rattle.std.proofs.Common.{[], get_or, ap, ◌∙◌, arith, rules}
use Rattle.stores.specs.Answers.{bytes_from}
use Rattle.stores.proofs.Copied.{bytes_there, copying_none, copying_inside, copying_more, copied}
use Rattle.stores.proofs.writing.copy_rule.Goals as goal

pub loop-byte-init : goal.loop-byte-init
loop-byte-init g c =
    let ts = g.S.Store.rules c.args.store.now in
    copying_none c.args.out.now (get_or ts c.args.rule []) _ c.args.place
    (ap (λ b. bytes_from (g.S.Store.rules b.store.now) b.rule b.at) c.into_iter-byte-iterator.ensures.into_iter_gives
    ∙ c.new-byte-items.ensures ∙ bytes_there ts c.args.rule c.requires.there)

pub bounds-out-end : goal.bounds-out-end
bounds-out-end g c =
    let inside = copying_inside c.args.out.now _ c.args.place _ _ c.loop-byte.end c.loop-byte.out c.loop-byte.invariant _ _ c.in-Some.ensures.steps c.requires.room in
    omega (arith, inside, c.loop-byte.auto.out)

pub overflow_add-end : goal.overflow_add-end
overflow_add-end g c =
    let inside = copying_inside c.args.out.now _ c.args.place _ _ c.loop-byte.end c.loop-byte.out c.loop-byte.invariant _ _ c.in-Some.ensures.steps c.requires.room in
    search rules

pub loop-byte-preserved : goal.loop-byte-preserved
loop-byte-preserved g c =
    copying_more c.args.out.now _ c.args.place _ _ c.loop-byte.end c.loop-byte.out c.loop-byte.invariant c.in-Some.byte _ c.in-Some.ensures.steps c.requires.room

pub returns-clause-value : goal.returns-clause-value
returns-clause-value g c = (copied c.args.out.now _ c.args.place _ _ c.loop-byte.end c.loop-byte.out c.loop-byte.invariant c.in-None.ensures.steps.0).0

pub returns-clause-after : goal.returns-clause-after
returns-clause-after g c = (copied c.args.out.now _ c.args.place _ _ c.loop-byte.end c.loop-byte.out c.loop-byte.invariant c.in-None.ensures.steps.0).1
