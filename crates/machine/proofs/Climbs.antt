-- Going up the branch for the goals that remain. Assumes nothing.
use Rattle.std.proofs.Common.{◌≡◌, ℕ, zero, suc, ◌-◌, ◌<◌, ◌≤◌, false, eqb, List, [], ◌∷◌, ◌++◌, map, reverse, length, get_or, sym, refl, ap, ◌∙◌, subst, arith, eqb-true, Option, Some, None, IfSome}
use borrow.Author.Tests.{eqb-false}
use Rattle.std.proofs.lemmas.List.{length-reverse, get_or-reverse}
use Rattle.terms.specs.Terms.{Term}
use Rattle.unification.specs.Variables.{shifted}
use Rattle.unification.proofs.Choice.{cond_at}
use Rattle.bindings.specs.Texts.{Spans, tree}
use Rattle.branches.specs.declared.Goals.{Goals}
use Rattle.branches.specs.declared.Step.{Step}
use Rattle.branches.specs.Rows.{after, row, Standing}
use Rattle.branches.specs.Branches.{later, behind, remaining, RowKept}
use Rattle.branches.proofs.Rows.{spans_after}
use Rattle.branches.proofs.Remaining.{later_next, later_above, step_at, TriedOn, kept_at, behind_at, below_more}
use Rattle.machine.specs.Branches.{taken}
use Rattle.machine.specs.declared.tables.Tables.{Tables}
use Rattle.machine.specs.Climbs.{steps_in, RowOver}

-- what stands where no step was taken
abbrev pub no_step : Step
no_step = record { rule = 0; goals = record { place = 0; level = 0; left = 0; above = None }; level = 0; mark = 0 }

step_counted : (ss : List Step) (k : ℕ) → k < length ss → step_at ss k ≡ get_or ss (length ss - 1 - k) no_step
unfolding step_at
step_counted [] k l = absurd (omega (arith, l))
step_counted (s ∷ ss) k l =
    cond_at (λ (x : Step). x ≡ get_or (s ∷ ss) (length (s ∷ ss) - 1 - k) no_step) (eqb k (length ss))
    (λ e. let i : 0 ≡ length (s ∷ ss) - 1 - k = omega (arith, eqb-true k (length ss) e) in ap (λ (n : ℕ). get_or (s ∷ ss) n no_step) i)
    (λ e. let i : suc (length ss - 1 - k) ≡ length (s ∷ ss) - 1 - k = omega (arith, below e) in
    step_counted ss k (below e) ∙ ap (λ (n : ℕ). get_or (s ∷ ss) n no_step) i)
  where
    below : eqb k (length ss) ≡ false → k < length ss
    below e = let n : k ≡ length ss → ⊥ = eqb-false k (length ss) e in omega (arith, l, n)

-- The step with the number k of a branch, where the oldest has the number 0.
pub newest_at : (steps : List Step) (k : ℕ) → k < length steps → step_at (reverse steps) k ≡ get_or steps k no_step
newest_at steps k l =
    let n = length-reverse steps in
    let i : length steps - 1 - (length (reverse steps) - 1 - k) ≡ k = omega (arith, n, l) in
    step_counted (reverse steps) k (omega (arith, n, l)) ∙ get_or-reverse steps (length (reverse steps) - 1 - k) no_step (omega (arith, n, l))
    ∙ ap (λ (j : ℕ). get_or steps j no_step) i

-- how many steps are above, up to the first
abbrev pub steps_above : Option ℕ → ℕ
steps_above None = 0
steps_above (Some k) = suc k

module _ (t : Tables) where
  -- The first of several goals has an end, from where the others stand.
  pub row_end : {g : Goals} {used : ℕ} → RowOver t g used → 1 ≤ g.left → (u : Term) × (q : ℕ) × Spans t.text.bytes g.place u q
  row_end {g} {used} o l = by g.left o.row.standing l
    where
      by : (n : ℕ) → Standing t.text.bytes used g.place g.level n → 1 ≤ n → (u : Term) × (q : ℕ) × Spans t.text.bytes g.place u q
      by zero s l = absurd (omega (arith, l))
      by (suc n) s l = (tree t.text.bytes g.place, s.0.end, s.0.spans)

  module _ (g : Goals) (p : ℕ) (at_end : (u : Term) (q : ℕ) → Spans t.text.bytes g.place u q → p ≡ q) where
    next_place : {used : ℕ} → RowOver t g used → 1 ≤ g.left → p ≡ after t.text.bytes g.place
    next_place o l = let e = row_end o l in at_end e.0 e.1 e.2 ∙ sym (spans_after t.text.bytes g.place e.0 e.1 e.2)

    -- The others of a row.
    pub next_row : (used : ℕ) → RowOver t g used → 1 < g.left → (r : Goals) → r.place ≡ p → r.level ≡ g.level → r.left ≡ g.left - 1 → r.above ≡ g.above
        → RowKept t.text.bytes used (steps_in t) r × (remaining t.text.bytes (steps_in t) r ≡ later (remaining t.text.bytes (steps_in t) g))
    next_row used o l r e f n a = by g.left refl o.row.standing l
      where
        by : (k : ℕ) → g.left ≡ k → Standing t.text.bytes used g.place g.level k → 1 < k
            → RowKept t.text.bytes used (steps_in t) r × (remaining t.text.bytes (steps_in t) r ≡ later (remaining t.text.bytes (steps_in t) g))
        by zero q s l = absurd (omega (arith, l))
        by (suc k) q s l =
            let place : r.place ≡ after t.text.bytes g.place = e ∙ next_place o (omega (arith, q)) in
            let left : r.left ≡ k = omega (arith, n, q) in
            let standing : Standing t.text.bytes used r.place r.level r.left =
            subst (λ (x : ℕ). Standing t.text.bytes used x r.level r.left) (sym place)
            (subst (λ (x : ℕ). Standing t.text.bytes used (after t.text.bytes g.place) x r.left) (sym f)
            (subst (λ (x : ℕ). Standing t.text.bytes used (after t.text.bytes g.place) g.level x) (sym left) s.1)) in (
              record { standing = standing; above = subst (λ (x : Option ℕ). IfSome x (λ i. i < length (steps_in t))) (sym a) o.row.above },
              ap (λ (x : ℕ). map (shifted r.level) (row t.text.bytes x r.left) ++ behind t.text.bytes (steps_in t) r.above) place
                  ∙ ap (λ (x : ℕ). map (shifted x) (row t.text.bytes (after t.text.bytes g.place) r.left) ++ behind t.text.bytes (steps_in t) r.above) f
                  ∙ ap (λ (x : ℕ). map (shifted g.level) (row t.text.bytes (after t.text.bytes g.place) x) ++ behind t.text.bytes (steps_in t) r.above) left
                  ∙ ap (λ (x : Option ℕ). map (shifted g.level) (row t.text.bytes (after t.text.bytes g.place) k) ++ behind t.text.bytes (steps_in t) x) a
                  ∙ sym (later_next t.text.bytes (steps_in t) g k q),
            )

  -- One step up.
  module _ (g : Goals) (k : ℕ) (above : g.above ≡ Some k) where
    inside : {used : ℕ} → RowOver t g used → k < length (steps_in t)
    inside o = subst (λ (x : Option ℕ). IfSome x (λ i. i < length (steps_in t))) above o.row.above

    pub up_inside : {used : ℕ} → RowOver t g used → k < length (taken t.branch)
    up_inside o = omega (arith, inside o, length-reverse (taken t.branch))

    module _ (r : Goals) (is : r ≡ (get_or (taken t.branch) k no_step).goals) where
      at_step : {used : ℕ} → RowOver t g used → r ≡ (step_at (steps_in t) k).goals
      at_step o =
          is ∙ ap (λ (s : Step). s.goals) (sym (newest_at (taken t.branch) k (up_inside o)))

      tried_on : {used : ℕ} (o : RowOver t g used) → TriedOn t.text.bytes o.clauses o.variables used k (step_at (steps_in t) k)
      tried_on {used} o = kept_at t.text.bytes o.clauses o.variables (steps_in t) o.cells o.newest used k o.kept (inside o)

      pub up_over : (used : ℕ) → RowOver t g used → RowOver t r used
      up_over used o =
          let n = tried_on o in
          record {
            clauses = o.clauses;
            variables = o.variables;
            cells = o.cells;
            newest = o.newest;
            kept = o.kept;
            row =
                subst (RowKept t.text.bytes used (steps_in t)) (sym (at_step o))
                (record { standing = n.standing; above = below_more (step_at (steps_in t) k).goals.above k (length (steps_in t)) (omega (arith, inside o)) n.above });
          }

      pub up_some : {used : ℕ} → RowOver t g used → 1 ≤ r.left
      up_some o = subst (λ (x : Goals). 1 ≤ x.left) (sym (at_step o)) (tried_on o).some

      pub up_less : {used : ℕ} → RowOver t g used → steps_above r.above < steps_above g.above
      up_less o =
          subst (λ (x : Goals). steps_above x.above < steps_above g.above) (sym (at_step o))
          (subst (λ (x : Option ℕ). steps_above (step_at (steps_in t) k).goals.above < steps_above x) (sym above) (fewer (step_at (steps_in t) k).goals.above (tried_on o).above))
        where
          fewer : (o : Option ℕ) → IfSome o (λ i. i < k) → steps_above o < suc k
          fewer None h = omega arith
          fewer (Some i) h = omega (arith, h)

      pub up_behind : {used : ℕ} → RowOver t g used → g.left ≡ 1
          → later (remaining t.text.bytes (steps_in t) r) ≡ later (remaining t.text.bytes (steps_in t) g)
      up_behind {used} o l =
          ap (λ (x : Goals). later (remaining t.text.bytes (steps_in t) x)) (at_step o)
          ∙ sym (behind_at t.text.bytes o.clauses o.variables (steps_in t) o.cells o.newest used k o.kept (inside o))
          ∙ ap (behind t.text.bytes (steps_in t)) (sym above) ∙ sym (later_above t.text.bytes (steps_in t) g l)
