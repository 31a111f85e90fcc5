-- The tables of a search stay in order, and mean what the definition says, as it moves. Assumes nothing.
use Rattle.std.proofs.Common.{◌≡◌, ℕ, suc, ◌-◌, ◌<◌, ◌≤◌, Bool, true, false, List, [], ◌∷◌, ◌++◌, reverse, length, get_or, sym, refl, ap, ◌∙◌, subst, ap₂, arith, eq-eqb, eqb-true, le-leb, leb-true, None}
use Rattle.std.proofs.lemmas.Bool.{and_from, and_parts}
use Rattle.std.proofs.lemmas.List.{length-reverse, reverse-append}
use Rattle.resolution.specs.declared.Stop.TheVariants.{Deep, Cells as Short}
use Rattle.resolution.specs.Lines.{Place}
use Rattle.resolution.specs.Search.{opened}
use Rattle.bindings.specs.Cells.{Cell}
use Rattle.bindings.specs.Trails.{Since, none_bound}
use Rattle.bindings.specs.Checks.{undone}
use Rattle.bindings.proofs.Links.{since_length}
use Rattle.branches.specs.declared.Clause.{Clause}
use Rattle.branches.specs.declared.Goals.{Goals}
use Rattle.branches.specs.declared.Step.{Step}
use Rattle.branches.specs.declared.Due.TheVariants.{Nothing, NoRule, Stop, Rule as ARule}
use Rattle.branches.specs.Rows.{Declared}
use Rattle.branches.specs.Clauses.{clause}
use Rattle.branches.specs.Branches.{At, branch, place, StepKept, Kept, InOrder}
use Rattle.branches.specs.Moves.{due_at, off}
use Rattle.branches.specs.Tests.{all_stated?}
use Rattle.branches.proofs.Tests.{declared_true, true_declared, in_order_true, true_in_order}
use Rattle.branches.proofs.Moves.{at_start, start_place, start_in_order, at_back, off_place, back_in_order}
use Rattle.branches.proofs.Dues.{due_nothing, due_no_rule, due_deep, due_cells, due_rule}
use Rattle.machine.specs.Branches.{taken}
use Rattle.machine.specs.declared.question.Question.{Question}
use Rattle.machine.specs.declared.text.Text.{Text}
use Rattle.machine.specs.Climbs.{steps_in}
use Rattle.machine.specs.States.{State, text_of, rules_of, query_of, at_of, place_of, Good, good}

-- ── the test ──

pub true_good : (s : State) → good s ≡ true → Good s
unfolding good
true_good s e =
    let a = and_parts _ _ e in
    let b = and_parts _ _ a.1 in
    let c = and_parts _ _ b.1 in
    let d = and_parts _ _ c.1 in
    let f = and_parts _ _ d.1 in
    record {
      order = true_in_order (text_of s) s.clauses s.question.variables (at_of s) a.0;
      stated = b.0;
      asked = true_declared (text_of s) s.question.variables s.question.place s.question.goals c.0;
      depth = leb-true _ _ d.0;
      count = leb-true _ _ f.0;
      all_cells = eqb-true _ _ f.1;
    }

pub good_true : (s : State) → Good s → good s ≡ true
unfolding good
good_true s g =
    and_from _ _ (in_order_true (text_of s) s.clauses s.question.variables (at_of s) g.order)
    (and_from _ _ g.stated
    (and_from _ _ (declared_true (text_of s) s.question.variables s.question.place s.question.goals g.asked)
    (and_from _ _ (le-leb _ _ g.depth)
    (and_from _ _ (le-leb _ _ g.count) (eq-eqb _ _ g.all_cells)))))

-- ── a state by its parts ──

-- rules and query stay where they are
pub record SameBook (s s' : State) : Type 0 where
  pub text : s'.tables.text ≡ s.tables.text
  pub clauses : s'.clauses ≡ s.clauses
  pub question : s'.question ≡ s.question

pub at_as : {a : At} {ss : List Step} {cs : List Cell} {h n : ℕ} {g : Goals} {d : ℕ} → a.steps ≡ ss → a.cells ≡ cs → a.newest ≡ h → a.used ≡ n → a.goals ≡ g → a.due ≡ d
    → a ≡ record { steps = ss; cells = cs; newest = h; used = n; goals = g; due = d }
at_as {a} {ss} {cs} {h} {n} {g} {d} s c k u r e =
    ap₂ (λ (x : List Step) (y : List Cell). record { steps = x; cells = y; newest = a.newest; used = a.used; goals = a.goals; due = a.due }) s c
    ∙ ap₂ (λ (x y : ℕ). record { steps = ss; cells = cs; newest = x; used = y; goals = a.goals; due = a.due }) k u
    ∙ ap₂ (λ (x : Goals) (y : ℕ). record { steps = ss; cells = cs; newest = h; used = n; goals = x; due = y }) r e

module _ (s s' : State) (book : SameBook s s') where
  text_same : text_of s' ≡ text_of s
  text_same = ap (λ (t : Text). t.bytes) book.text

  module _ (a : At) (is : at_of s' ≡ a) where
    pub place_as : place_of s' ≡ place (text_of s) a
    place_as = ap₂ place text_same is

    pub good_as : Good s → InOrder (text_of s) s.clauses s.question.variables a → s'.tables.branch.depth ≤ 512 → length s'.tables.cells.table ≡ 2048 → good s' ≡ true
    good_as g order depth cells =
        good_true s' (record {
          order =
              subst (λ (t : List ℕ). InOrder t s'.clauses s'.question.variables (at_of s')) (sym text_same)
              (subst (λ (cs : List Clause). InOrder (text_of s) cs s'.question.variables (at_of s')) (sym book.clauses)
              (subst (λ (q : Question). InOrder (text_of s) s.clauses q.variables (at_of s')) (sym book.question)
              (subst (InOrder (text_of s) s.clauses s.question.variables) (sym is) order)));
          stated = ap₂ (λ (t : List ℕ) (cs : List Clause). all_stated? t cs) text_same book.clauses ∙ g.stated;
          asked =
              subst (λ (t : List ℕ). Declared t s'.question.variables s'.question.place s'.question.goals) (sym text_same)
              (subst (λ (q : Question). Declared (text_of s) q.variables q.place q.goals) (sym book.question) g.asked);
          depth = depth;
          count = subst (λ (cs : List Clause). length cs ≤ 1024) (sym book.clauses) g.count;
          all_cells = cells;
        })

-- ── what is due ──

module _ (s : State) (g : Good s) where
  depth_is : length (at_of s).steps ≡ length (taken s.tables.branch)
  depth_is = length-reverse (taken s.tables.branch)

  pub cells_room : s.tables.cells.used ≤ 2048
  cells_room = omega (arith, g.order.sound.room, g.all_cells)

  pub nothing_due : s.goals.left ≡ 0 → Nothing ≡ due_at (rules_of s) (place_of s)
  nothing_due e = sym (due_nothing (text_of s) s.clauses s.question.variables (at_of s) g.order e)

  pub no_rule_due : 1 ≤ s.goals.left → length s.clauses ≤ s.due → NoRule ≡ due_at (rules_of s) (place_of s)
  no_rule_due l h =
      sym (due_no_rule (text_of s) s.clauses s.question.variables (at_of s) g.order l h)

  pub deep_due : 1 ≤ s.goals.left → s.due < length s.clauses → 512 ≤ length (taken s.tables.branch) → Stop Deep ≡ due_at (rules_of s) (place_of s)
  deep_due l h d =
      sym (due_deep (text_of s) s.clauses s.question.variables (at_of s) g.order l h (omega (arith, d, depth_is)))

  module _ (c : Clause) (is : c ≡ clause s.clauses s.due) where
    variables_are : (clause s.clauses s.due).variables ≡ c.variables
    variables_are = ap (λ (x : Clause). x.variables) (sym is)

    pub cells_due : 1 ≤ s.goals.left → s.due < length s.clauses → length (taken s.tables.branch) < 512 → 2048 - s.tables.cells.used < c.variables
        → Stop Short ≡ due_at (rules_of s) (place_of s)
    cells_due l h d k =
        sym (due_cells (text_of s) s.clauses s.question.variables (at_of s) g.order l h (omega (arith, d, depth_is)) (omega (arith, k, variables_are)))

    pub rule_due : 1 ≤ s.goals.left → s.due < length s.clauses → length (taken s.tables.branch) < 512 → c.variables ≤ 2048 - s.tables.cells.used
        → ARule ≡ due_at (rules_of s) (place_of s)
    rule_due l h d k =
        sym (due_rule (text_of s) s.clauses s.question.variables (at_of s) g.order l h (omega (arith, d, depth_is)) (omega (arith, k, variables_are)))

-- ── going back ──

module _ (s : State) (g : Good s) (newest_step : Step) (older : List Step) (is : (taken s.tables.branch) ≡ older ++ (newest_step ∷ [])) where
  abbrev older_steps : List Step
  older_steps = reverse older

  steps_are : steps_in s.tables ≡ newest_step ∷ older_steps
  steps_are = ap reverse is ∙ reverse-append older (newest_step ∷ [])

  newest_kept : Kept (text_of s) s.clauses s.question.variables (newest_step ∷ older_steps) s.tables.cells.table s.tables.cells.newest s.tables.cells.used
  newest_kept =
      subst (λ (ss : List Step). Kept (text_of s) s.clauses s.question.variables ss s.tables.cells.table s.tables.cells.newest s.tables.cells.used) steps_are g.order.kept

  step_is_kept : StepKept (text_of s) s.clauses newest_step older_steps s.tables.cells.table s.tables.cells.newest s.tables.cells.used
  unfolding Kept
  step_is_kept = newest_kept.0

  pub newest_since : Since (undone s.tables.cells.table s.tables.cells.newest newest_step.mark) newest_step.mark s.tables.cells.table s.tables.cells.newest
  newest_since = step_is_kept.since

  pub newest_rule : newest_step.rule < 1024
  newest_rule = omega (arith, step_is_kept.rule, g.count)

  -- where it stands then
  abbrev went : At
  went =
      at_back (text_of s) s.clauses s.question.variables newest_step older_steps s.tables.cells.table s.tables.cells.newest

  off_is : off (place_of s).branch (place_of s) ≡ (true, place (text_of s) went)
  off_is =
      ap (λ (ss : List Step). off (branch (text_of s) ss s.tables.cells.table s.tables.cells.newest) (place_of s)) steps_are
      ∙ off_place (text_of s) s.clauses s.question.variables newest_step older_steps s.tables.cells.table s.tables.cells.newest (place_of s) step_is_kept.some

  pub back_value : true ≡ (off (place_of s).branch (place_of s)).0
  back_value = sym (ap (λ (r : Bool × Place). r.0) off_is)

  module _ (s' : State) (book : SameBook s s')
      (table : (was : List Cell) → Since was newest_step.mark s.tables.cells.table s.tables.cells.newest → s'.tables.cells.table ≡ was)
      (used : s'.tables.cells.used ≡ newest_step.level) (newest : s'.tables.cells.newest ≡ newest_step.mark)
      (steps : taken s'.tables.branch ≡ older) (depth : s'.tables.branch.depth ≤ 512)
      (goals : s'.goals ≡ newest_step.goals) (due : s'.due ≡ suc newest_step.rule) where
    went_at : at_of s' ≡ went
    went_at =
        at_as (ap reverse steps) (table _ newest_since) newest used goals due

    pub back_good : good s' ≡ true
    back_good =
        good_as s s' book went went_at g
        (back_in_order (text_of s) s.clauses s.question.variables newest_step older_steps s.tables.cells.table s.tables.cells.newest s.tables.cells.used newest_kept)
        depth
        (ap length (table _ newest_since) ∙ since_length newest_since ∙ g.all_cells)

    pub back_place : place_of s' ≡ (off (place_of s).branch (place_of s)).1
    back_place = place_as s s' book went went_at ∙ sym (ap (λ (r : Bool × Place). r.1) off_is)

pub no_back : (s : State) → (taken s.tables.branch) ≡ [] → off (place_of s).branch (place_of s) ≡ (false, place_of s)
unfolding branch
no_back s e =
    ap (λ (ss : List Step). off (branch (text_of s) (reverse ss) s.tables.cells.table s.tables.cells.newest) (place_of s)) e

-- ── rewinding ──

module _ (s : State) (g : Good s) (s' : State) (book : SameBook s s') (free : (i : ℕ) → get_or s'.tables.cells.table i None ≡ None)
    (many : length s'.tables.cells.table ≡ 2048) (used : s'.tables.cells.used ≡ s.question.variables) (newest : s'.tables.cells.newest ≡ none_bound)
    (steps : taken s'.tables.branch ≡ []) (depth : s'.tables.branch.depth ≤ 512)
    (goals : s'.goals ≡ record { place = s.question.place; level = 0; left = s.question.goals; above = None }) (due : s'.due ≡ 0) (few : s.question.variables ≤ 255) where
  abbrev start : At
  start = at_start (text_of s) s.question.variables s.question.place s.question.goals s'.tables.cells.table free

  start_at : at_of s' ≡ start
  start_at = at_as (ap reverse steps) refl newest used goals due

  pub rewind_good : good s' ≡ true
  rewind_good =
      good_as s s' book start start_at g
      (start_in_order (text_of s) s.question.variables s.question.place s.question.goals s'.tables.cells.table free s.clauses
      g.order.sound.short (omega (arith, many, few)) (omega (arith, many)) g.asked)
      depth many

  pub rewind_place : place_of s' ≡ (opened (query_of s)).place
  rewind_place =
      place_as s s' book start start_at
      ∙ start_place (text_of s) s.question.variables s.question.place s.question.goals s'.tables.cells.table free
