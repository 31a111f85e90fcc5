use Rattle.std.proofs.Common.{List, slice_index_or, ap, ap₂, ◌∙◌, arith}
use Rattle.std.proofs.Math.Option.{some}
use Rattle.terms.specs.Terms.{Rule, Query}
use Rattle.slips.specs.Runs.{reply, after}
use Rattle.engine.specs.declared.slots.Slot.{Slot}
use Rattle.engine.specs.Models.{rules_of, query_of, model}
use Rattle.engine.specs.Slots.{asked}
use Rattle.engine.proofs.Carrying.{one_more}
use Rattle.engine.proofs.runs.play.Goals as goal

pub loop-slot-preserved : goal.loop-slot-preserved
loop-slot-preserved g c =
    let at = c.loop-slot in
    let inv = at.invariant in
    let e = c.carry.ensures in
    let x = slice_index_or at.slots at.slot-index c.slot-item.result in
    let s = model at.search in (
      e.rules ∙ inv.0,
      e.query ∙ inv.1,
      one_more (rules_of c.in_ok-search.search) (query_of c.in_ok-search.search) c.args.slots.now (model c.in_ok-search.search) at.slots at.slot-index s (model c.carry.new.self)
          x c.carry.new.slot inv.2 (omega (arith, c.loop-slot-test.true, at.auto.slots)) (ap (λ (d : Slot). slice_index_or at.slots at.slot-index d) c.slot-item.is)
          (e.returned ∙ ap₂ (λ (rs : List Rule) (q : Query). some (reply rs q (asked x) s)) inv.0 inv.1)
          (e.search ∙ ap₂ (λ (rs : List Rule) (q : Query). after rs q (asked x) s) inv.0 inv.1)
          e.keeps,
    )
