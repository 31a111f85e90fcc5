use Rattle.std.proofs.Common.{◌≡◌, ℕ, ◌-◌, ◌<◌, List, length, get_or, refl, ap, ◌∙◌, arith, rules}
use Rattle.bindings.proofs.Texts.{inside}
use Rattle.branches.specs.declared.Goals.{Goals}
use Rattle.branches.specs.declared.Step.{Step}
use Rattle.machine.specs.Branches.{taken}
use Rattle.machine.specs.Climbs.{RowOver}
use Rattle.machine.proofs.Climbs.{no_step, row_end, next_row, up_inside, up_over, up_some, up_less as up_lower, up_behind}
use Rattle.machine.proofs.tables.Tables.behind.Goals as goal

pub end-place-requires : goal.end-place-requires
end-place-requires c =
    row_end c.args.self.now (c.up.invariant.1 c.requires.used c.requires.over) c.up.invariant.0

pub overflow_cast-place : goal.overflow_cast-place
overflow_cast-place c =
    let e = row_end c.args.self.now (c.up.invariant.1 c.requires.used c.requires.over) c.up.invariant.0 in
    let i = inside _ _ _ _ e.2 in
    let r : c.end-place.result ≡ e.1 = c.end-place.ensures e.0 e.1 e.2 in
    let n = c.requires.short in
    search rules

pub returns-then-at-gt1 : goal.returns-then-at-gt1
returns-then-at-gt1 c =
    let more : 1 < c.up.at.left = c.if-at-gt1.true in
    let r : Goals = record { place = c.end-place.result; level = c.up.at.level; left = c.up.at.left - 1; above = c.up.at.above } in
    let next = λ (used : ℕ) (o : RowOver c.args.self.now c.args.goals used). next_row c.args.self.now c.up.at c.end-place.result c.end-place.ensures used (c.up.invariant.1 used o) more r refl refl refl refl in
    record {
      row = λ used o. (next used o).0;
      bare = λ e. absurd (omega (arith, e, more));
      behind = (next c.requires.used c.requires.over).1 ∙ c.up.invariant.2;
    }

pub bounds-taken-above : goal.bounds-taken-above
bounds-taken-above c =
    let o = c.up.invariant.1 c.requires.used c.requires.over in
    omega (arith, up_inside c.args.self.now c.up.at c.in-Some.above c.in-Some.is o, ap length c.taken.ensures)

abbrev goals_at : goal.After-at-1 → Goals
goals_at c = (get_or c.taken.result.now c.in-Some.above no_step).goals

at_is : (c : goal.After-at-1) → goals_at c ≡ (get_or (taken c.args.self.now.branch) c.in-Some.above no_step).goals
at_is c = ap (λ (ss : List Step). (get_or ss c.in-Some.above no_step).goals) c.taken.ensures

last : (c : goal.After-at-1) → c.up.at.left ≡ 1
last c = let n = c.if-at-gt1.false in let m = c.up.invariant.0 in omega (arith, n, m)

pub up-smaller : goal.up-smaller
up-smaller c =
    up_lower c.args.self.now c.up.at c.in-Some.above c.in-Some.is (goals_at c) (at_is c) (c.up.invariant.1 c.requires.used c.requires.over)

pub up-preserved : goal.up-preserved
up-preserved c =
    let t = c.args.self.now in
    let o = c.up.invariant.1 c.requires.used c.requires.over in (
      up_some t c.up.at c.in-Some.above c.in-Some.is (goals_at c) (at_is c) o,
      (λ used r. up_over t c.up.at c.in-Some.above c.in-Some.is (goals_at c) (at_is c) used (c.up.invariant.1 used r)),
      up_behind t c.up.at c.in-Some.above c.in-Some.is (goals_at c) (at_is c) o (last c) ∙ c.up.invariant.2,
    )

pub taken-requires : goal.taken-requires
taken-requires c = c.requires.few
