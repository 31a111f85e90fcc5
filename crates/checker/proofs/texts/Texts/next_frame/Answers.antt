use Rattle.std.proofs.Common.{◌<◌, length, sym, ◌∙◌, arith}
use Rattle.comparing.proofs.Stages.{done, next, nothing_left}
use Rattle.checker.specs.Texts.{sources}
use Rattle.checker.proofs.texts.Texts.next_frame.Goals as goal
use Rattle.checker.proofs.texts.Texts.next_frame.Goals.{In-Some}

pub returns-then-more-clause-next : goal.returns-then-more-clause-next
returns-then-more-clause-next g c = λ table goals st.
    next (sources g.S.Store.rules c.args.self.now) table c.loop-top.frames.items c.pop.new.self.items c.in-Some.top goals c.in-Some.ensures.items
    (λ own m. sym c.if-more.true ∙ c.more.ensures table own m) (c.loop-top.invariant.stacked table goals st)

pub loop-top-preserved : goal.loop-top-preserved
loop-top-preserved g c = record {
  stacked = λ table goals st.
      done (sources g.S.Store.rules c.args.self.now) table c.loop-top.frames.items c.pop.new.self.items c.in-Some.top goals c.in-Some.ensures.items
      (λ own m. sym c.if-more.false ∙ c.more.ensures table own m) (c.loop-top.invariant.stacked table goals st);
  fewer = omega (arith, c.in-Some.ensures.len);
}

pub returns-clause-next : goal.returns-clause-next
returns-clause-next g c = λ table goals st.
    let empty : 0 < length c.loop-top.frames.items → ⊥ = λ l. (let some = c.in_default.ensures.variant.1 l in cc) in
    nothing_left (sources g.S.Store.rules c.args.self.now) table c.loop-top.frames.items goals empty (c.loop-top.invariant.stacked table goals st)
