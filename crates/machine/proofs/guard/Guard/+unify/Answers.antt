use Rattle.std.proofs.Common.{◌≡◌, rules}
use Rattle.bindings.proofs.Endings.{case_pairs, first_failed, weight_first}
use Rattle.bindings.proofs.Shapes.{split, split_first, split_is, part_stands}
use Rattle.machine.specs.Guards.{means}
use Rattle.machine.proofs.Turns.{only_then, shown_as, forms_same, form_left, form_right, forms_apart, turn_less, goes_on}
use Rattle.machine.proofs.guard.Guard.+unify.Goals as goal

pub returns-then-eq-clause-ends : goal.returns-then-eq-clause-ends
returns-then-eq-clause-ends t c =
    let e : c.shape-one.result ≡ c.shape-other.result = search rules in
    c.rests.invariant.leads _ _ _ (forms_same _ c.rests.self c.rests.invariant.sound c.rests.s c.rests.t c.shape-one.ensures c.shape-other.ensures e)

pub returns-in-Open-clause-ends : goal.returns-in-Open-clause-ends
returns-in-Open-clause-ends t c =
    let n : c.shape-one.result ≡ c.shape-other.result → ⊥ = λ e. search rules in
    c.rests.invariant.leads _ _ _ (form_left _ c.rests.self c.rests.invariant.sound c.rests.s c.rests.t c.shape-one.ensures c.shape-other.ensures n c.in-Open.cell c.in-Open.is c.assign.ensures.ends)

pub returns-in-Open-other : goal.returns-in-Open-other
returns-in-Open-other t c =
    let n : c.shape-one.result ≡ c.shape-other.result → ⊥ = λ e. search rules in
    let a = c.assign-in-Open-other.ensures in
    record {
      only = only_then c.rests.invariant.only a.only;
      ends =
          c.rests.invariant.leads _ _ _
          (form_right _ c.rests.self c.rests.invariant.sound c.rests.s c.rests.t c.shape-one.ensures c.shape-other.ensures n c.in_default.not-Open c.in-Open-other.cell c.in-Open-other.is a.ends);
    }

pub returns-in_default-one : goal.returns-in_default-one
returns-in_default-one t c =
    let n : c.shape-one.result ≡ c.shape-other.result → ⊥ = λ e. search rules in
    record {
      only = c.rests.invariant.only;
      ends =
          c.rests.invariant.leads _ _ _
          (forms_apart _ c.rests.self c.rests.invariant.sound c.rests.s c.rests.t c.shape-one.ensures c.shape-other.ensures n c.in_default.not-Open c.in_default-other.not-Open (λ p q e f. c.in_default-one.not-Pair p e));
    }

pub returns-in_default-other-2 : goal.returns-in_default-other-2
returns-in_default-other-2 t c =
    let n : c.shape-one.result ≡ c.shape-other.result → ⊥ = λ e. search rules in
    record {
      only = c.rests.invariant.only;
      ends =
          c.rests.invariant.leads _ _ _
          (forms_apart _ c.rests.self c.rests.invariant.sound c.rests.s c.rests.t c.shape-one.ensures c.shape-other.ensures n c.in_default.not-Open c.in_default-other.not-Open (λ p q e f. c.in_default-other-2.not-Pair q f));
    }

pub first-requires : goal.first-requires
first-requires t c = (split c.rests.invariant.sound (shown_as c.args.text.now.bytes c.rests.self (means c.args.text.now.bytes c.rests.self c.rests.s) c.shape-one.ensures c.in-Pair.is)).room

pub first-requires-in-rests : goal.first-requires-in-rests
first-requires-in-rests t c = (split c.rests.invariant.sound (shown_as c.args.text.now.bytes c.rests.self (means c.args.text.now.bytes c.rests.self c.rests.t) c.shape-other.ensures c.in-Pair-other.is)).room

pub unify-requires : goal.unify-requires
unify-requires t c =
    let k = c.rests.self in
    let a = split c.rests.invariant.sound (shown_as c.args.text.now.bytes k (means c.args.text.now.bytes k c.rests.s) c.shape-one.ensures c.in-Pair.is) in
    let b = split c.rests.invariant.sound (shown_as c.args.text.now.bytes k (means c.args.text.now.bytes k c.rests.t) c.shape-other.ensures c.in-Pair-other.is) in
    let f = c.first.result in
    let o = c.first-in-rests.result in
    let w = weight_first c.args.text.now.bytes k.used k.cells.now k.newest c.rests.s f _ (split_first a f c.first.ensures.place c.first.ensures.level) in
    let y = c.rests.invariant.weighs in (
      search rules,
      (c.rests.invariant.sound, (part_stands f c.first.ensures.place c.first.ensures.level a.first, part_stands o c.first-in-rests.ensures.place c.first-in-rests.ensures.level b.first)),
    )

pub rest-s-requires : goal.rest-s-requires
rest-s-requires t c =
    let k = c.rests.self in
    let a = split c.rests.invariant.sound (shown_as c.args.text.now.bytes k (means c.args.text.now.bytes k c.rests.s) c.shape-one.ensures c.in-Pair.is) in
    (_, a.mid, a.spans)

pub rest-t-requires : goal.rest-t-requires
rest-t-requires t c =
    let k = c.rests.self in
    let b = split c.rests.invariant.sound (shown_as c.args.text.now.bytes k (means c.args.text.now.bytes k c.rests.t) c.shape-other.ensures c.in-Pair-other.is) in
    (_, b.mid, b.spans)

pub returns-then-not-unify : goal.returns-then-not-unify
returns-then-not-unify t c =
    let k = c.rests.self in
    let a = split c.rests.invariant.sound (shown_as c.args.text.now.bytes k (means c.args.text.now.bytes k c.rests.s) c.shape-one.ensures c.in-Pair.is) in
    let b = split c.rests.invariant.sound (shown_as c.args.text.now.bytes k (means c.args.text.now.bytes k c.rests.t) c.shape-other.ensures c.in-Pair-other.is) in
    record {
      only = only_then c.rests.invariant.only c.unify.ensures.only;
      ends =
          c.rests.invariant.leads _ _ _
          (case_pairs _ _ _ _ _ _ (split_first a c.first.result c.first.ensures.place c.first.ensures.level) (split_first b c.first-in-rests.result c.first-in-rests.ensures.place c.first-in-rests.ensures.level)
          (first_failed _ _ _ c.unify.ensures.ends c.if-not-unify.true));
    }

pub rests-smaller : goal.rests-smaller
rests-smaller t c =
    let k = c.rests.self in
    let only = c.unify.ensures.only in
    let a = split c.rests.invariant.sound (shown_as c.args.text.now.bytes k (means c.args.text.now.bytes k c.rests.s) c.shape-one.ensures c.in-Pair.is) in
    let b = split c.rests.invariant.sound (shown_as c.args.text.now.bytes k (means c.args.text.now.bytes k c.rests.t) c.shape-other.ensures c.in-Pair-other.is) in
    let x = c.rest-s.ensures.place _ _ a.spans in
    let y = c.rest-t.ensures.place _ _ b.spans in
    turn_less c.rests.invariant
    (record { stands = part_stands c.rest-s.result x c.rest-s.ensures.level a.rest; is = split_is a c.first.result c.rest-s.result c.first.ensures.place c.first.ensures.level x c.rest-s.ensures.level })
    (record { stands = part_stands c.rest-t.result y c.rest-t.ensures.level b.rest; is = split_is b c.first-in-rests.result c.rest-t.result c.first-in-rests.ensures.place c.first-in-rests.ensures.level y c.rest-t.ensures.level })
    only c.unify.ensures.ends c.if-not-unify.false

pub rests-preserved : goal.rests-preserved
rests-preserved t c =
    let k = c.rests.self in
    let only = c.unify.ensures.only in
    let a = split c.rests.invariant.sound (shown_as c.args.text.now.bytes k (means c.args.text.now.bytes k c.rests.s) c.shape-one.ensures c.in-Pair.is) in
    let b = split c.rests.invariant.sound (shown_as c.args.text.now.bytes k (means c.args.text.now.bytes k c.rests.t) c.shape-other.ensures c.in-Pair-other.is) in
    let x = c.rest-s.ensures.place _ _ a.spans in
    let y = c.rest-t.ensures.place _ _ b.spans in
    goes_on c.rests.invariant
    (record { stands = part_stands c.rest-s.result x c.rest-s.ensures.level a.rest; is = split_is a c.first.result c.rest-s.result c.first.ensures.place c.first.ensures.level x c.rest-s.ensures.level })
    (record { stands = part_stands c.rest-t.result y c.rest-t.ensures.level b.rest; is = split_is b c.first-in-rests.result c.rest-t.result c.first-in-rests.ensures.place c.first-in-rests.ensures.level y c.rest-t.ensures.level })
    only c.unify.ensures.ends c.if-not-unify.false
