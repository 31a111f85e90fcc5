use Rattle.std.proofs.Common.{sym, ◌∙◌, arith, rules}
use Rattle.bindings.proofs.Shapes.{split, split_first, split_is, part_stands, occurs_yes, occurs_no, size_first, size_rest}
use Rattle.machine.proofs.Views.{seen_sound}
use Rattle.machine.proofs.view.View.+occurs.Goals as goal

pub first-requires : goal.first-requires
first-requires t c = (split (seen_sound c.args.self.now) c.in-Pair.ensures).room

pub occurs-requires : goal.occurs-requires
occurs-requires t c =
    let a = split (seen_sound c.args.self.now) c.in-Pair.ensures in
    let z = size_first _ _ _ (split_first a c.first.result c.first.ensures.place c.first.ensures.level) in
    let y = c.rests.invariant.1 in
    (search rules, part_stands c.first.result c.first.ensures.place c.first.ensures.level a.first)

pub returns-then-occurs : goal.returns-then-occurs
returns-then-occurs t c =
    let a = split (seen_sound c.args.self.now) c.in-Pair.ensures in
    let e = split_first a c.first.result c.first.ensures.place c.first.ensures.level in
    sym (sym c.rests.invariant.2 ∙ occurs_yes c.args.cell _ _ _ e (sym c.occurs.ensures ∙ c.if-occurs.true))

pub rest-at-requires : goal.rest-at-requires
rest-at-requires t c =
    let a = split (seen_sound c.args.self.now) c.in-Pair.ensures in (_, a.mid, a.spans)

pub rests-smaller : goal.rests-smaller
rests-smaller t c =
    let a = split (seen_sound c.args.self.now) c.in-Pair.ensures in
    size_rest _ _ _ (split_is a c.first.result c.rest-at.result c.first.ensures.place c.first.ensures.level (c.rest-at.ensures.place _ _ a.spans) c.rest-at.ensures.level)

pub rests-preserved : goal.rests-preserved
rests-preserved t c =
    let a = split (seen_sound c.args.self.now) c.in-Pair.ensures in
    let e = split_is a c.first.result c.rest-at.result c.first.ensures.place c.first.ensures.level (c.rest-at.ensures.place _ _ a.spans) c.rest-at.ensures.level in
    let z = size_rest _ _ _ e in (
      part_stands c.rest-at.result (c.rest-at.ensures.place _ _ a.spans) c.rest-at.ensures.level a.rest,
      omega (arith, c.rests.invariant.1),
      sym (occurs_no c.args.cell _ _ _ e (sym c.occurs.ensures ∙ c.if-occurs.false)) ∙ c.rests.invariant.2,
    )
