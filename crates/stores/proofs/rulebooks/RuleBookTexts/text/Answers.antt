use Rattle.std.proofs.Common.{◌+◌, ◌-◌, ◌≡◌, ◌≤◌, length, take, drop, Some, ap, ◌∙◌, arith, rules}
use Rattle.std.specs.Option.{option_map}
use Rattle.stores.specs.Begun.{begun}
use Rattle.stores.proofs.Shelved.{few_begun, absent, There, there_at}
use Rattle.stores.proofs.rulebooks.RuleBookTexts.text.Goals as goal
use Rattle.stores.proofs.rulebooks.RuleBookTexts.text.Goals.{In_ok-place}

pub returns-in_err-place : goal.returns-in_err-place
returns-in_err-place c =
    let b = c.args.self.now in
    ap (option_map (λ x. x.now)) c.from_residual.ensures
    ∙ absent b.image.now.bytes.now (begun b.begins) b.known b.placed (few_begun b.begins.count b.begins.places b.begins.few) c.args.rule c.in_err-place.ensures

-- where the rule stands
stands : (c : In_ok-place) → There c.args.self.now.image.now.bytes.now (begun c.args.self.now.begins) c.args.self.now.known c.args.self.now.placed
    (few_begun c.args.self.now.begins.count c.args.self.now.begins.places c.args.self.now.begins.few) c.args.rule c.in_ok-place.field-0
stands c =
    let b = c.args.self.now in
    there_at b.image.now.bytes.now (begun b.begins) b.known b.placed (few_begun b.begins.count b.begins.places b.begins.few) c.args.rule c.in_ok-place.field-0 c.in_ok-place.ensures

pub bounds-bytes-place : goal.bounds-bytes-place
bounds-bytes-place c = let s = stands (goal.at.bounds-bytes-place c).In_ok-place in omega (arith, s.long, s.inside)

pub bounds-bytes-place-2 : goal.bounds-bytes-place-2
bounds-bytes-place-2 c = let s = stands (goal.at.bounds-bytes-place-2 c).In_ok-place in omega (arith, s.long, s.inside)

pub slice_bounds-result-end : goal.slice_bounds-result-end
slice_bounds-result-end c =
    let s = stands (goal.at.slice_bounds-result-end c).In_ok-place in
    let inside : c.in_ok-place.field-0 + 5 + c.from_be_bytes-length.result ≤ length c.args.self.now.image.now.bytes.now =
    omega (arith, s.inside, s.by_header, c.from_be_bytes-length.ensures) in
    search rules

pub returns : goal.returns
returns c =
    let s = stands (goal.at.returns c).In_ok-place in
    let p = c.in_ok-place.field-0 in
    let size : p + 5 + c.from_be_bytes-length.result - p ≡ length s.it = omega (arith, s.by_header, c.from_be_bytes-length.ensures) in
    ap Some (ap (λ n. take n (drop p c.args.self.now.image.now.bytes.now)) size ∙ s.part) ∙ s.text
