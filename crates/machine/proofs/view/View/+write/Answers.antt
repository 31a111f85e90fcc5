use Rattle.std.proofs.Common.{arith, rules}
use Rattle.bindings.proofs.Shapes.{split, split_first, split_is, part_stands, size_first, size_rest}
use Rattle.machine.proofs.Numberings.{writes_as, writes_atom, pair_over, first_over, pair_then}
use Rattle.machine.proofs.Views.{seen_sound}
use Rattle.machine.proofs.view.View.+write.Goals as goal

pub open-requires : goal.open-requires
open-requires t c = (_, c.rests.invariant.named.0, c.in-Open.ensures.0, c.rests.invariant.named.1)

pub returns-in-Open : goal.returns-in-Open
returns-in-Open t c = c.rests.invariant.leads _ _ (writes_as _ _ c.in-Open.ensures.2 (c.open.ensures _ c.in-Open.ensures.0))

pub returns-in-Atom : goal.returns-in-Atom
returns-in-Atom t c = c.rests.invariant.leads _ _ (writes_as _ _ c.in-Atom.ensures (writes_atom _ c.atom.ensures))

pub returns-in_err-put-in-Pair : goal.returns-in_err-put-in-Pair
returns-in_err-put-in-Pair t c =
    let a = split (seen_sound c.args.self.now) c.in-Pair.ensures in
    c.rests.invariant.leads _ _ (writes_as _ _ a.is (pair_over _ _ c.in_err-put-in-Pair.ensures c.from_residual.ensures.0))

pub first-requires : goal.first-requires
first-requires t c = (split (seen_sound c.args.self.now) c.in-Pair.ensures).room

pub write-requires : goal.write-requires
write-requires t c =
    let a = split (seen_sound c.args.self.now) c.in-Pair.ensures in
    let z = size_first _ _ _ (split_first a c.first.result c.first.ensures.place c.first.ensures.level) in
    let y = c.rests.invariant.weighs in
    (search rules, (part_stands c.first.result c.first.ensures.place c.first.ensures.level a.first, c.rests.invariant.named))

pub returns-in_err-write-in-Pair : goal.returns-in_err-write-in-Pair
returns-in_err-write-in-Pair t c =
    let a = split (seen_sound c.args.self.now) c.in-Pair.ensures in
    let e = split_first a c.first.result c.first.ensures.place c.first.ensures.level in
    c.rests.invariant.leads _ _ (writes_as _ _ e (first_over c.in_ok-put-in-Pair.ensures _ c.in_err-write-in-Pair.ensures c.from_residual-in_err-write-in-Pair.ensures.0))

pub rest-at-requires : goal.rest-at-requires
rest-at-requires t c =
    let a = split (seen_sound c.args.self.now) c.in-Pair.ensures in (_, a.mid, a.spans)

pub rests-smaller : goal.rests-smaller
rests-smaller t c =
    let a = split (seen_sound c.args.self.now) c.in-Pair.ensures in
    size_rest _ _ _ (split_is a c.first.result c.rest-at.result c.first.ensures.place c.first.ensures.level (c.rest-at.ensures.place _ _ a.spans) c.rest-at.ensures.level)

pub rests-preserved : goal.rests-preserved
rests-preserved t c =
    let a = split (seen_sound c.args.self.now) c.in-Pair.ensures in
    let e = split_is a c.first.result c.rest-at.result c.first.ensures.place c.first.ensures.level (c.rest-at.ensures.place _ _ a.spans) c.rest-at.ensures.level in
    let z = size_rest _ _ _ e in
    let n = c.rests.invariant.named in
    record {
      stands = part_stands c.rest-at.result (c.rest-at.ensures.place _ _ a.spans) c.rest-at.ensures.level a.rest;
      weighs = omega (arith, c.rests.invariant.weighs);
      named = (_, c.in_ok-write-in-Pair.ensures.after n.0 n.1);
      leads = λ x r p. c.rests.invariant.leads x r (writes_as _ _ e (pair_then c.in_ok-put-in-Pair.ensures c.in_ok-write-in-Pair.ensures p));
    }
