use Rattle.std.proofs.Common.{sym, ◌∙◌, rules}
use Rattle.std.proofs.lemmas.Option.{none-some}
use Rattle.bindings.proofs.Chains.{step_back, step_on, at_mark, bound_count_less}
use Rattle.machine.proofs.cells.unwind.Goals as goal

pub bounds-cells-i : goal.bounds-cells-i
bounds-cells-i c = (step_back c.loop-at-test.true c.loop-at.invariant.1.1).inside

pub loop-at-smaller : goal.loop-at-smaller
loop-at-smaller c =
    let s = step_back c.loop-at-test.true c.loop-at.invariant.1.1 in
    rw c.take.ensures.after (bound_count_less c.loop-at.cells c.loop-at.at _ s.inside s.is)

pub loop-at-preserved : goal.loop-at-preserved
loop-at-preserved c =
    let is = sym c.take.ensures.value ∙ c.in-Some.is in
    rw c.take.ensures.after (
      search rules,
      (c.loop-at.invariant.1.0, step_on is (step_back c.loop-at-test.true c.loop-at.invariant.1.1)),
      λ was s. step_on is (step_back c.loop-at-test.true (c.loop-at.invariant.2 was s)),
    )

pub unreachable-requires : goal.unreachable-requires
unreachable-requires c =
    let s = step_back c.loop-at-test.true c.loop-at.invariant.1.1 in
    none-some _ (sym c.in-None.is ∙ c.take.ensures.value ∙ s.is)

pub returns : goal.returns
returns c = λ was s. at_mark (rw c.loop-at-test.false at (c.loop-at.invariant.2 was s))
