use Rattle.std.proofs.Common.{◌≡◌, ◌+◌, ◌<◌, ◌≤◌, [], ◌++◌, length, get_or, take, drop, set, sym, refl, ap, ◌∙◌, arith, length-set}
use Rattle.books.specs.Writing.{book_of}
use Rattle.stores.proofs.Copied.{size_more, size_part, world_first, rule_laid, all_laid}
use Rattle.stores.proofs.writing.copy_rules.Goals as goal

pub loop-rule-init : goal.loop-rule-init
loop-rule-init g c = (refl, world_first c.args.out.now (omega (arith, c.requires.room)))

pub copy_rule-place-requires : goal.copy_rule-place-requires
copy_rule-place-requires g c =
    let ts = g.S.Store.rules c.args.store.now in
    let i = c.loop-rule.rule in
    let there : i < length ts = omega (arith, c.count-rule-end.ensures, c.loop-rule-test.true) in
    let long : length c.loop-rule.out ≡ length c.args.out.now = c.loop-rule.auto.out ∙ length-set (set c.args.out.now 0 17) 1 0 ∙ length-set c.args.out.now 0 17 in
    record {
      there = omega (arith, c.count-rule-end.ensures, c.loop-rule-test.true);
      room = omega (arith, size_part ts i there, c.loop-rule.invariant.0, c.requires.room, long);
    }

pub loop-rule-preserved : goal.loop-rule-preserved
loop-rule-preserved g c =
    let ts = g.S.Store.rules c.args.store.now in
    let i = c.loop-rule.rule in
    let t = get_or ts i [] in
    let out = set (set c.args.out.now 0 17) 1 0 in
    let there : i < length ts = omega (arith, c.count-rule-end.ensures, c.loop-rule-test.true) in
    let long : length out ≡ length c.args.out.now = length-set (set c.args.out.now 0 17) 1 0 ∙ length-set c.args.out.now 0 17 in
    let room : c.loop-rule.place + length t ≤ length out = omega (arith, size_part ts i there, c.loop-rule.invariant.0, c.requires.room) in (
      c.copy_rule-place.ensures.value ∙ ap (λ n. n + length t) c.loop-rule.invariant.0 ∙ size_more ts i there,
      rule_laid ts out c.loop-rule.out c.copy_rule-place.new.out i c.loop-rule.place there c.loop-rule.invariant.0 c.loop-rule.invariant.1 room c.copy_rule-place.ensures.after
          ∙ ap (λ n. book_of (take (i + 1) ts) ++ drop n out) (sym c.copy_rule-place.ensures.value),
    )

pub returns : goal.returns
returns g c =
    let ts = g.S.Store.rules c.args.store.now in
    all_laid ts c.args.out.now c.loop-rule.out c.loop-rule.rule c.loop-rule.place (omega (arith, c.count-rule-end.ensures, c.loop-rule-test.false, c.requires.few)) c.loop-rule.invariant.0 c.loop-rule.invariant.1
