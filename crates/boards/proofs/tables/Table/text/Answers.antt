use Rattle.std.proofs.Common.{◌≡◌, ◌-◌, ◌<◌, ◌≤◌, [], ◌∷◌, length, get_or, take, drop, Some, ap, ◌∙◌, subst, arith, rules}
use Rattle.std.specs.Option.{option_map}
use Rattle.stores.proofs.Shelved.{text_here, text_gone}
use Rattle.boards.specs.Tables.{Held}
use Rattle.boards.proofs.Laid.{between, count_held}
use Rattle.boards.proofs.tables.Table.text.Goals as goal
use Rattle.boards.proofs.tables.Table.text.Goals.{After-begin}

pub returns-in_err-end : goal.returns-in_err-end
returns-in_err-end c =
    let t = c.self.inside in
    let h = subst (Held t.ends.items t.bytes.items) c.self.view_is c.self.invariant in
    ap (option_map (λ x. x.now)) c.from_residual.ensures
    ∙ text_gone c.args.self.now c.args.rule (omega (arith, count_held t.ends.items t.bytes.items c.args.self.now h, ap length c.as_slice-ends.ensures.value, c.in_err-end.ensures.lookup.3))

-- where the rule begins and ends
record Stands (c : After-begin) : Type 0 where
  there : c.args.rule < length c.args.self.now
  few : length c.args.self.now ≤ 1024
  ordered : c.begin.result ≤ c.in_ok-end.field-0.now
  inside : c.in_ok-end.field-0.now ≤ length c.as_slice.result.now
  text : take (c.in_ok-end.field-0.now - c.begin.result) (drop c.begin.result c.as_slice.result.now) ≡ get_or c.args.self.now c.args.rule []

stands : (c : After-begin) → Stands c
stands c =
    let t = c.self.inside in
    let h = subst (Held t.ends.items t.bytes.items) c.self.view_is c.self.invariant in
    let ends = c.as_slice-ends.ensures.value in
    let count = count_held t.ends.items t.bytes.items c.args.self.now h in
    let got = c.in_ok-end.ensures.lookup in
    let there : c.args.rule < length c.args.self.now = omega (arith, count, ap length ends, got.3.0) in
    let it = between t.ends.items t.bytes.items c.args.self.now h c.args.rule there c.begin.result c.in_ok-end.field-0.now
    (c.begin.ensures ∙ ap (λ l. get_or (0 ∷ l) c.args.rule 0) ends) (got.3.1 0 ∙ ap (λ l. get_or l c.args.rule 0) ends) in
    record {
      there = there;
      few = omega (arith, count, ap length ends, c.as_slice-ends.ensures.fits);
      ordered = omega (arith, it.size);
      inside = omega (arith, it.inside, ap length c.as_slice.ensures.value);
      text = ap (λ l. take (c.in_ok-end.field-0.now - c.begin.result) (drop c.begin.result l)) c.as_slice.ensures.value ∙ it.text;
    }

pub slice_bounds-result-count : goal.slice_bounds-result-count
slice_bounds-result-count c = (stands (goal.at.slice_bounds-result-count c).After-begin).ordered

pub slice_bounds-result-start : goal.slice_bounds-result-start
slice_bounds-result-start c = let s = stands (goal.at.slice_bounds-result-start c).After-begin in search rules

pub slice_bounds-result-end : goal.slice_bounds-result-end
slice_bounds-result-end c = let s = stands (goal.at.slice_bounds-result-end c).After-begin in search rules

pub returns : goal.returns
returns c =
    let s = stands (goal.at.returns c).After-begin in
    ap Some s.text ∙ text_here c.args.self.now c.args.rule s.few s.there
