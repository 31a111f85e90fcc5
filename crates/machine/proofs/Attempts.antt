-- A try where one can be made: the tables after it are in order, and mean what the definition says. Assumes nothing.
use Rattle.std.proofs.Common.{◌≡◌, ℕ, zero, suc, ◌+◌, ◌-◌, ◌<◌, ◌≤◌, Bool, true, false, ltb, List, [], ◌∷◌, ◌++◌, map, reverse, length, sym, refl, ap, ◌∙◌, subst, ap₂, arith, ltb-false, ltb-true, Some, None, true≢false}
use mathlib.Core.Option.{Option, none, some}
use Rattle.std.proofs.lemmas.List.{length-reverse, reverse-append}
use Rattle.machine.specs.declared.branch.Branch.{Branch}
use Rattle.unification.specs.Variables.{shifted}
use Rattle.unification.specs.Substitutions.{Substitution}
use Rattle.unification.specs.Unification.{unify}
use Rattle.resolution.specs.Lines.{landed}
use Rattle.bindings.specs.Texts.{tree, Stands}
use Rattle.bindings.specs.Trails.{trail, Since}
use Rattle.bindings.specs.Presents.{presents}
use Rattle.bindings.specs.Checks.{undone}
use Rattle.bindings.proofs.Links.{sound_mark, since_length}
use Rattle.bindings.proofs.Checks.{since_undone}
use Rattle.branches.specs.declared.Clause.{Clause}
use Rattle.branches.specs.declared.Goals.{Goals}
use Rattle.branches.specs.declared.Step.{Step}
use Rattle.branches.specs.declared.Due.{Due}
use Rattle.branches.specs.declared.Due.TheVariants.{Rule as ARule}
use Rattle.branches.specs.Rows.{row, Standing}
use Rattle.branches.specs.Clauses.{clause, rule_at, Stated}
use Rattle.branches.specs.Branches.{later, remaining, At, RowKept, Kept}
use Rattle.branches.specs.Moves.{due_at, attempted}
use Rattle.branches.proofs.Tests.{stated_at}
use Rattle.branches.proofs.Moves.{at_taken, taken_place, taken_kept, with_goals, with_goals_kept, without_goals, still_kept}
use Rattle.branches.proofs.Dues.{first_goal, other_goals, attempted_is, failed_place, failed_in_order}
use Rattle.machine.specs.Branches.{taken}
use Rattle.machine.specs.declared.attempt.Head.{Head}
use Rattle.machine.specs.declared.cells.Cells.{Cells}
use Rattle.machine.specs.declared.tables.Tables.{Tables}
use Rattle.machine.specs.declared.text.Text.{Text}
use Rattle.machine.specs.Climbs.{steps_in, RowOver, Climbing, Climbed}
use Rattle.machine.specs.Tries.{first_at, found, Ready, Taken, Outcome, Tried}
use Rattle.machine.specs.States.{State, text_of, rules_of, at_of, place_of, Good, good}
use Rattle.machine.proofs.States.{SameBook, at_as, place_as, good_as, cells_room, nothing_due, no_rule_due, deep_due, cells_due}

-- ── where a try can be made ──

pub record CanTry (s : State) (c : Clause) : Type 0 where
  pub some : 1 ≤ s.goals.left
  pub rule : s.due < length s.clauses
  pub shallow : length (taken s.tables.branch) < 512
  pub room : s.tables.cells.used + c.variables ≤ 2048

module _ (s : State) (g : Good s) (due : due_at (rules_of s) (place_of s) ≡ ARule) where
  clash : {x : Due} → x ≡ due_at (rules_of s) (place_of s) → (x ≡ ARule → ⊥) → ⊥
  clash e n = n (e ∙ due)

  can_some : 1 ≤ s.goals.left
  can_some = by (ltb 0 s.goals.left) refl
    where
      by : (b : Bool) → ltb 0 s.goals.left ≡ b → 1 ≤ s.goals.left
      by true e = ltb-true 0 s.goals.left e
      by false e =
          let z : s.goals.left ≡ 0 = omega (arith, ltb-false 0 s.goals.left e) in
          absurd (clash (nothing_due s g z) (λ q. let w : ◌≡◌ {A = ℕ} 0 1 = cc in omega arith))

  pub can_rule : s.due < length s.clauses
  can_rule = by (ltb s.due (length s.clauses)) refl
    where
      by : (b : Bool) → ltb s.due (length s.clauses) ≡ b → s.due < length s.clauses
      by true e = ltb-true s.due (length s.clauses) e
      by false e =
          absurd (clash (no_rule_due s g can_some (ltb-false s.due (length s.clauses) e)) (λ q. let w : ◌≡◌ {A = ℕ} 0 1 = cc in omega arith))

  can_shallow : length (taken s.tables.branch) < 512
  can_shallow = by (ltb (length (taken s.tables.branch)) 512) refl
    where
      by : (b : Bool) → ltb (length (taken s.tables.branch)) 512 ≡ b → length (taken s.tables.branch) < 512
      by true e = ltb-true (length (taken s.tables.branch)) 512 e
      by false e =
          absurd (clash (deep_due s g can_some can_rule (ltb-false (length (taken s.tables.branch)) 512 e)) (λ q. let w : ◌≡◌ {A = ℕ} 0 1 = cc in omega arith))

  module _ (c : Clause) (is : c ≡ clause s.clauses s.due) where
    can_room : s.tables.cells.used + c.variables ≤ 2048
    can_room = by (ltb (2048 - s.tables.cells.used) c.variables) refl
      where
        by : (b : Bool) → ltb (2048 - s.tables.cells.used) c.variables ≡ b → s.tables.cells.used + c.variables ≤ 2048
        by true e =
            absurd (clash (cells_due s g c is can_some can_rule can_shallow (ltb-true _ _ e)) (λ q. let w : ◌≡◌ {A = ℕ} 0 1 = cc in omega arith))
        by false e = omega (arith, ltb-false _ _ e, cells_room s g)

    pub can_try : CanTry s c
    can_try = record { some = can_some; rule = can_rule; shallow = can_shallow; room = can_room }

    pub stated : Stated (text_of s) c
    stated =
        subst (Stated (text_of s)) (sym is)
        (stated_at (text_of s) s.clauses s.due g.stated can_rule)

    abbrev pub head : Head
    head = record { place = c.head; variables = c.variables }

    first_stands : (n : ℕ) → Standing (text_of s) s.tables.cells.used s.goals.place s.goals.level n → 1 ≤ n → Stands (text_of s) s.tables.cells.used s.goals.place s.goals.level
    first_stands zero w l = absurd (omega (arith, l))
    first_stands (suc n) w l = w.0

    pub ready : Ready (text_of s) s.tables.cells head (first_at s.goals)
    ready =
        record {
          ordered = g.order.sound;
          head = stated.head;
          goal = first_stands s.goals.left g.order.row.standing can_some;
          room = can_room;
        }

    clause_due : clause s.clauses s.due ≡ c
    clause_due = sym is

    -- what the definition makes of it
    attempted_by : attempted (rules_of s) (place_of s)
        ≡ landed (place_of s) (rule_at (text_of s) c) (first_goal (text_of s) s.clauses s.question.variables (at_of s) g.order)
        (other_goals (text_of s) s.clauses s.question.variables (at_of s) g.order) (found (text_of s) s.tables.cells head (first_at s.goals))
    attempted_by =
        attempted_is (text_of s) s.clauses s.question.variables (at_of s) g.order can_some can_rule due
        ∙ ap (λ (x : Clause). landed (place_of s) (rule_at (text_of s) x) (first_goal (text_of s) s.clauses s.question.variables (at_of s) g.order) (other_goals (text_of s) s.clauses s.question.variables (at_of s) g.order) (unify (shifted s.tables.cells.used (tree (text_of s) x.head)) (first_goal (text_of s) s.clauses s.question.variables (at_of s) g.order))) clause_due

    -- ── the try fails ──

    module _ (s' : State) (book : SameBook s s') (tried : Tried (text_of s) s.tables.cells head (first_at s.goals) s'.tables.cells false)
        (steps : s'.tables.branch ≡ s.tables.branch) (goals : s'.goals ≡ s.goals) (next : s'.due ≡ suc s.due) where
      failed_by : (o : Option Substitution) → Outcome (text_of s) s.tables.cells c.variables s'.tables.cells o false → (o ≡ none) × (s'.tables.cells ≡ s.tables.cells)
      failed_by none e = (refl, e.1)
      failed_by (some σ) e = absurd (true≢false (sym e.0))

      nothing_found : (found (text_of s) s.tables.cells head (first_at s.goals) ≡ none) × (s'.tables.cells ≡ s.tables.cells)
      nothing_found = failed_by (found (text_of s) s.tables.cells head (first_at s.goals)) tried.outcome

      abbrev failed_at : At
      failed_at =
          record { steps = (at_of s).steps; cells = (at_of s).cells; newest = (at_of s).newest; used = (at_of s).used; goals = (at_of s).goals; due = suc (at_of s).due }

      is_failed : at_of s' ≡ failed_at
      is_failed =
          let e = nothing_found.1 in
          at_as (ap (λ (b : Branch). reverse (taken b)) steps) (ap (λ (x : Cells). x.table) e) (ap (λ (x : Cells). x.newest) e) (ap (λ (x : Cells). x.used) e) goals next

      pub failed_good : good s' ≡ true
      failed_good =
          good_as s s' book failed_at is_failed g (failed_in_order (text_of s) s.clauses s.question.variables (at_of s) g.order)
          (subst (λ (b : Branch). b.depth ≤ 512) (sym steps) g.depth)
          (ap (λ (x : Cells). length x.table) nothing_found.1 ∙ g.all_cells)

      pub failed_is : place_of s' ≡ attempted (rules_of s) (place_of s)
      failed_is =
          place_as s s' book failed_at is_failed
          ∙ failed_place (text_of s) s.clauses s.question.variables (at_of s) g.order (rule_at (text_of s) c) can_some
          ∙ sym (attempted_by ∙ ap (landed (place_of s) (rule_at (text_of s) c) (first_goal (text_of s) s.clauses s.question.variables (at_of s) g.order) (other_goals (text_of s) s.clauses s.question.variables (at_of s) g.order)) nothing_found.0)

-- ── the rule is taken ──

-- the tables t are those of s after a try that took the rule of the clause c
pub record Took (s : State) (c : Clause) (t : Tables) : Type 0 where
  pub text : t.text ≡ s.tables.text
  pub tried : Tried (text_of s) s.tables.cells (record { place = c.head; variables = c.variables }) (first_at s.goals) t.cells true
  pub depth : t.branch.depth ≤ 512
  pub steps : taken t.branch ≡ taken s.tables.branch ++ (record { rule = s.due; goals = s.goals; level = s.tables.cells.used; mark = s.tables.cells.newest } ∷ [])

module _ (s : State) (g : Good s) (due : due_at (rules_of s) (place_of s) ≡ ARule) (c : Clause) (is : c ≡ clause s.clauses s.due)
    (t : Tables) (took : Took s c t) where
  -- the new step, and the branch with it
  abbrev new : Step
  new = record { rule = s.due; goals = s.goals; level = s.tables.cells.used; mark = s.tables.cells.newest }

  can : CanTry s c
  can = can_try s g due c is

  found_by : (o : Option Substitution) → Outcome (text_of s) s.tables.cells c.variables t.cells o true
      → (σ : Substitution) × (o ≡ some σ) × Taken (text_of s) s.tables.cells c.variables t.cells σ
  found_by none e = absurd (true≢false e.0)
  found_by (some σ) e = (σ, refl, e.1)

  was_found : (σ : Substitution) × (found (text_of s) s.tables.cells (head s g due c is) (first_at s.goals) ≡ some σ) × Taken (text_of s) s.tables.cells c.variables t.cells σ
  was_found = found_by (found (text_of s) s.tables.cells (head s g due c is) (first_at s.goals)) took.tried.outcome

  is_taken : Taken (text_of s) s.tables.cells c.variables t.cells was_found.0
  is_taken = was_found.2

  text_as : t.text.bytes ≡ text_of s
  text_as = ap (λ (x : Text). x.bytes) took.text

  steps_after : steps_in t ≡ new ∷ steps_in s.tables
  steps_after = ap reverse took.steps ∙ reverse-append (taken s.tables.branch) (new ∷ [])

  since : Since s.tables.cells.table s.tables.cells.newest t.cells.table t.cells.newest
  since = is_taken.since _ _ (sound_mark g.order.sound)

  undo : undone t.cells.table t.cells.newest s.tables.cells.newest ≡ s.tables.cells.table
  undo = since_undone _ _ _ _ since

  kept_after : Kept (text_of s) s.clauses s.question.variables (new ∷ steps_in s.tables) t.cells.table t.cells.newest (s.tables.cells.used + c.variables)
  kept_after =
      taken_kept (text_of s) s.clauses s.question.variables (at_of s) c was_found.0 t.cells.table t.cells.newest s.goals g.order undo since
      can.rule (sym is) can.some

  goals_after : RowKept (text_of s) (s.tables.cells.used + c.variables) (new ∷ steps_in s.tables) s.goals
  goals_after =
      still_kept (text_of s) s.clauses s.question.variables (at_of s) c was_found.0 t.cells.table t.cells.newest s.goals g.order.row

  over : RowOver t s.goals (s.tables.cells.used + c.variables)
  over =
      record {
        clauses = s.clauses;
        variables = s.question.variables;
        cells = t.cells.table;
        newest = t.cells.newest;
        kept =
            subst (λ (x : List ℕ). Kept x s.clauses s.question.variables (steps_in t) t.cells.table t.cells.newest (s.tables.cells.used + c.variables)) (sym text_as)
            (subst (λ (ss : List Step). Kept (text_of s) s.clauses s.question.variables ss t.cells.table t.cells.newest (s.tables.cells.used + c.variables)) (sym steps_after) kept_after);
        row =
            subst (λ (x : List ℕ). RowKept x (s.tables.cells.used + c.variables) (steps_in t) s.goals) (sym text_as)
            (subst (λ (ss : List Step). RowKept (text_of s) (s.tables.cells.used + c.variables) ss s.goals) (sym steps_after) goals_after);
      }

  pub some_step : (t.branch.depth ≤ 512) × (0 < length (taken t.branch))
  some_step = let n : length (taken t.branch) ≡ suc (length (steps_in s.tables)) = sym (length-reverse (taken t.branch)) ∙ ap length steps_after in (took.depth, omega (arith, n))

  pub climbing : Climbing t s.goals
  climbing =
      record {
        used = s.tables.cells.used + c.variables;
        over = over;
        some = can.some;
        few = took.depth;
        short = subst (λ (x : List ℕ). length x < 65536) (sym text_as) g.order.sound.short;
      }

  module _ (s' : State) (book : SameBook s s') (tables : s'.tables ≡ t) (none_due : s'.due ≡ 0)
      (own : 0 < c.goals → s'.goals ≡ record { place = c.body; level = s.tables.cells.used; left = c.goals; above = Some (length (taken t.branch) - 1) })
      (behind : c.goals ≡ 0 → Climbed t s.goals s'.goals) where
    depth_as : length (taken t.branch) - 1 ≡ length (steps_in s.tables)
    depth_as = let n : length (taken t.branch) ≡ suc (length (steps_in s.tables)) = sym (length-reverse (taken t.branch)) ∙ ap length steps_after in omega (arith, n)

    own_as : 0 < c.goals → s'.goals ≡ record { place = c.body; level = s.tables.cells.used; left = c.goals; above = Some (length (steps_in s.tables)) }
    own_as l = own l ∙ ap (λ (n : ℕ). record { place = c.body; level = s.tables.cells.used; left = c.goals; above = Some n }) depth_as

    record GoalsAfter : Type 0 where
      are : remaining (text_of s) (new ∷ steps_in s.tables) s'.goals
          ≡ map (shifted s.tables.cells.used) (row (text_of s) c.body c.goals) ++ later (remaining (text_of s) (steps_in s.tables) s.goals)
      row_kept : RowKept (text_of s) (s.tables.cells.used + c.variables) (new ∷ steps_in s.tables) s'.goals
      bare : s'.goals.left ≡ 0 → s'.goals.above ≡ None

    goals_are : (n : ℕ) → c.goals ≡ n → GoalsAfter
    goals_are zero e =
        let k = behind e in
        record {
          are =
              without_goals (text_of s) s.clauses s.question.variables (at_of s) c was_found.0 t.cells.table t.cells.newest s'.goals e g.order.row.above
              (ap₂ (λ (x : List ℕ) (ss : List Step). remaining x ss s'.goals) (sym text_as) (sym steps_after) ∙ k.behind ∙ ap₂ (λ (x : List ℕ) (ss : List Step). later (remaining x ss s.goals)) text_as steps_after);
          row_kept =
              subst (λ (x : List ℕ). RowKept x (s.tables.cells.used + c.variables) (new ∷ steps_in s.tables) s'.goals) text_as
              (subst (λ (ss : List Step). RowKept t.text.bytes (s.tables.cells.used + c.variables) ss s'.goals) steps_after (k.row _ over));
          bare = k.bare;
        }
    goals_are (suc n) e =
        let f = own_as (omega (arith, e)) in
        record {
          are = with_goals (text_of s) s.clauses s.question.variables (at_of s) c was_found.0 t.cells.table t.cells.newest s'.goals f;
          row_kept =
              with_goals_kept (text_of s) s.clauses s.question.variables (at_of s) c was_found.0 t.cells.table t.cells.newest s'.goals (stated s g due c is) f;
          bare = λ z. let l : s'.goals.left ≡ c.goals = ap (λ (x : Goals). x.left) f in absurd (omega (arith, z, l, e));
        }

    abbrev taken_at : At
    taken_at =
        at_taken (text_of s) s.clauses s.question.variables (at_of s) c was_found.0 t.cells.table t.cells.newest s'.goals

    is_at : at_of s' ≡ taken_at
    is_at =
        at_as (ap steps_in tables ∙ steps_after) (ap (λ (x : Tables). x.cells.table) tables) (ap (λ (x : Tables). x.cells.newest) tables)
        (ap (λ (x : Tables). x.cells.used) tables ∙ is_taken.used) refl none_due

    pub taken_good : good s' ≡ true
    taken_good =
        let a = goals_are c.goals refl in
        good_as s s' book taken_at is_at g
        (record { sound = is_taken.applied.sound; kept = kept_after; row = a.row_kept; bare = a.bare })
        (subst (λ (x : Tables). x.branch.depth ≤ 512) (sym tables) took.depth)
        (ap (λ (x : Tables). length x.cells.table) tables ∙ sym (since_length since) ∙ g.all_cells)

    pub taken_is : place_of s' ≡ attempted (rules_of s) (place_of s)
    taken_is =
        place_as s s' book taken_at is_at
        ∙ taken_place (text_of s) s.clauses s.question.variables (at_of s) c was_found.0 t.cells.table t.cells.newest s'.goals
        g.order.sound is_taken.applied.means (ap (presents (trail (text_of s) t.cells.table t.cells.newest)) (sym is_taken.used) ∙ is_taken.terms) undo
        (goals_are c.goals refl).are
        ∙ sym (attempted_by s g due c is ∙ ap (landed (place_of s) (rule_at (text_of s) c) (first_goal (text_of s) s.clauses s.question.variables (at_of s) g.order) (other_goals (text_of s) s.clauses s.question.variables (at_of s) g.order)) was_found.1)
