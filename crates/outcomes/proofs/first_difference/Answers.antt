use Rattle.std.proofs.Common.{rules, ◌≡◌, arith, take, subst}
use Rattle.outcomes.proofs.Places.{apart, further, ends-apart}
use Rattle.outcomes.proofs.first_difference.Goals as goal

pub returns-then-ne-clause-first : goal.returns-then-ne-clause-first
returns-then-ne-clause-first c =
    let differ : (c.index-found-place.result ≡ c.index-stored-place.result → ⊥) = search rules in
    record {
      same = c.loop-place.invariant;
      other = apart c.args.found.now c.args.stored.now c.loop-place.place _ _
          (record { within = omega (arith, c.loop-place-test.true, c.min-shorter.ensures); is = c.index-found-place.is })
          (record { within = omega (arith, c.loop-place-test.true, c.min-shorter.ensures); is = c.index-stored-place.is })
          differ;
    }

pub loop-place-preserved : goal.loop-place-preserved
loop-place-preserved c =
    let same : c.index-found-place.result ≡ c.index-stored-place.result = search rules in
    further c.args.found.now c.args.stored.now c.loop-place.place _ _
    (record { within = omega (arith, c.loop-place-test.true, c.min-shorter.ensures); is = c.index-found-place.is })
    (record { within = omega (arith, c.loop-place-test.true, c.min-shorter.ensures); is = c.index-stored-place.is })
    same c.loop-place.invariant

pub returns-else-found-stored-clause-first : goal.returns-else-found-stored-clause-first
returns-else-found-stored-clause-first c =
    let at_end : c.loop-place.place ≡ c.min-shorter.result =
    omega (arith, c.loop-place-test.false, c.loop-place.auto.place-end) in
    record {
      same = subst (λ k. take k c.args.found.now ≡ take k c.args.stored.now) at_end c.loop-place.invariant;
      other = ends-apart _ _ _ c.min-shorter.ensures c.if-found-stored.false;
    }
