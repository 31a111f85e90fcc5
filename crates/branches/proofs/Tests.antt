-- The tests hold exactly where what they test holds. Assumes nothing.
use Rattle.std.proofs.Common.{◌≡◌, ℕ, zero, suc, ◌<◌, Bool, true, cond, eqb, List, [], ◌∷◌, length, sym, refl, ap, ◌∙◌, arith, ltb-true, lt-ltb, eq-eqb, eqb-true, le-leb, leb-true, Option, Some, None, IfSome, is_none, true≢false}
use Rattle.std.proofs.lemmas.Bool.{and_from, and_parts}
use Rattle.unification.proofs.Choice.{cond_at}
use Rattle.bindings.specs.Cells.{Cell}
use Rattle.bindings.specs.Checks.{undone}
use Rattle.bindings.proofs.Checks.{stands_true, true_stands, declares_true, true_declares, since_true, true_since, sound_true, true_sound}
use Rattle.branches.specs.declared.Goals.{Goals}
use Rattle.branches.specs.declared.Step.{Step}
use Rattle.branches.specs.declared.Clause.{Clause}
use Rattle.branches.specs.Rows.{after, Declared, Standing}
use Rattle.branches.specs.Clauses.{clause, Stated}
use Rattle.branches.specs.Branches.{At, RowKept, StepKept, Kept, InOrder}
use Rattle.branches.specs.Tests.{declared?, standing?, stated?, all_stated?, below?, row_kept?, step_kept?, kept?, bare?, in_order?}

module _ (text : List ℕ) where
  pub declared_true : (v p n : ℕ) → Declared text v p n → declared? text v p n ≡ true
  unfolding declared?
  declared_true v p zero d = refl
  declared_true v p (suc n) d = and_from _ _ (declares_true d.0) (declared_true v (after text p) n d.1)

  pub true_declared : (v p n : ℕ) → declared? text v p n ≡ true → Declared text v p n
  unfolding declared?
  true_declared v p zero e = tt
  true_declared v p (suc n) e = let b = and_parts _ _ e in (true_declares b.0, true_declared v (after text p) n b.1)

  pub standing_true : (m p l n : ℕ) → Standing text m p l n → standing? text m p l n ≡ true
  unfolding standing?
  standing_true m p l zero s = refl
  standing_true m p l (suc n) s = and_from _ _ (stands_true s.0) (standing_true m (after text p) l n s.1)

  pub true_standing : (m p l n : ℕ) → standing? text m p l n ≡ true → Standing text m p l n
  unfolding standing?
  true_standing m p l zero e = tt
  true_standing m p l (suc n) e = let b = and_parts _ _ e in (true_stands b.0, true_standing m (after text p) l n b.1)

  -- ── clauses ──

  pub stated_true : (c : Clause) → Stated text c → stated? text c ≡ true
  unfolding stated?
  stated_true c s = and_from _ _ (declares_true s.head) (declared_true c.variables c.body c.goals s.goals)

  pub true_stated : (c : Clause) → stated? text c ≡ true → Stated text c
  unfolding stated?
  true_stated c e = let b = and_parts _ _ e in record { head = true_declares b.0; goals = true_declared c.variables c.body c.goals b.1 }

  pub stated_at : (cs : List Clause) (i : ℕ) → all_stated? text cs ≡ true → i < length cs → Stated text (clause cs i)
  unfolding all_stated?
  stated_at [] i e l = absurd (omega (arith, l))
  stated_at (c ∷ cs) zero e l = true_stated c (and_parts _ _ e).0
  stated_at (c ∷ cs) (suc i) e l = stated_at cs i (and_parts _ _ e).1 (omega (arith, l))

  -- ── goals and steps ──

  below_true : (o : Option ℕ) (n : ℕ) → IfSome o (λ k. k < n) → below? o n ≡ true
  unfolding below?
  below_true None n h = refl
  below_true (Some k) n h = lt-ltb k n h

  true_below : (o : Option ℕ) (n : ℕ) → below? o n ≡ true → IfSome o (λ k. k < n)
  unfolding below?
  true_below None n e = tt
  true_below (Some k) n e = ltb-true k n e

  pub row_true : (used : ℕ) (ss : List Step) (g : Goals) → RowKept text used ss g → row_kept? text used ss g ≡ true
  unfolding row_kept?
  row_true used ss g r = and_from _ _ (standing_true used g.place g.level g.left r.standing) (below_true _ _ r.above)

  pub true_row : (used : ℕ) (ss : List Step) (g : Goals) → row_kept? text used ss g ≡ true → RowKept text used ss g
  unfolding row_kept?
  true_row used ss g e =
      let b = and_parts _ _ e in record { standing = true_standing used g.place g.level g.left b.0; above = true_below _ _ b.1 }

  module _ (cs : List Clause) where
    step_true : (s : Step) (ss : List Step) (cells : List Cell) (h used : ℕ) → StepKept text cs s ss cells h used → step_kept? text cs s ss cells h used ≡ true
    unfolding step_kept?
    step_true s ss cells h used k =
        and_from _ _ (since_true k.since)
        (and_from _ _ (sound_true k.sound)
        (and_from _ _ (lt-ltb _ _ k.rule)
        (and_from _ _ (eq-eqb _ _ k.cells_next)
        (and_from _ _ (le-leb _ _ k.some) (row_true s.level ss s.goals k.row)))))

    true_step : (s : Step) (ss : List Step) (cells : List Cell) (h used : ℕ) → step_kept? text cs s ss cells h used ≡ true → StepKept text cs s ss cells h used
    unfolding step_kept?
    true_step s ss cells h used e =
        let a = and_parts _ _ e in
        let b = and_parts _ _ a.1 in
        let c = and_parts _ _ b.1 in
        let d = and_parts _ _ c.1 in
        let f = and_parts _ _ d.1 in
        record {
          since = true_since a.0;
          sound = true_sound b.0;
          rule = ltb-true _ _ c.0;
          cells_next = eqb-true _ _ d.0;
          some = leb-true _ _ f.0;
          row = true_row s.level ss s.goals f.1;
        }

    module _ (v : ℕ) where
      pub kept_true : (ss : List Step) (cells : List Cell) (h used : ℕ) → Kept text cs v ss cells h used → kept? text cs v ss cells h used ≡ true
      unfolding Kept kept?
      kept_true [] cells h used k = eq-eqb _ _ k
      kept_true (s ∷ ss) cells h used k =
          and_from _ _ (step_true s ss cells h used k.0) (kept_true ss (undone cells h s.mark) s.mark s.level k.1)

      pub true_kept : (ss : List Step) (cells : List Cell) (h used : ℕ) → kept? text cs v ss cells h used ≡ true → Kept text cs v ss cells h used
      unfolding Kept kept?
      true_kept [] cells h used e = eqb-true _ _ e
      true_kept (s ∷ ss) cells h used e =
          let b = and_parts _ _ e in (true_step s ss cells h used b.0, true_kept ss (undone cells h s.mark) s.mark s.level b.1)

      -- ── all of it ──

      pub in_order_true : (a : At) → InOrder text cs v a → in_order? text cs v a ≡ true
      unfolding in_order? bare?
      in_order_true a o =
          and_from _ _ (sound_true o.sound)
          (and_from _ _ (kept_true a.steps a.cells a.newest a.used o.kept)
          (and_from _ _ (row_true a.used a.steps a.goals o.row) (bare_true a.goals o.bare)))
        where
          bare_true : (g : Goals) → (g.left ≡ 0 → g.above ≡ None) → bare? g ≡ true
          bare_true g f = cond_at (λ (b : Bool). b ≡ true) (eqb g.left 0) (λ e. ap is_none (f (eqb-true _ _ e))) (λ e. refl)

      pub true_in_order : (a : At) → in_order? text cs v a ≡ true → InOrder text cs v a
      unfolding in_order? bare?
      true_in_order a e =
          let b = and_parts _ _ e in
          let c = and_parts _ _ b.1 in
          let d = and_parts _ _ c.1 in
          record {
            sound = true_sound b.0;
            kept = true_kept a.steps a.cells a.newest a.used c.0;
            row = true_row a.used a.steps a.goals d.0;
            bare = true_bare a.goals d.1;
          }
        where
          nothing : (o : Option ℕ) → is_none o ≡ true → o ≡ None
          nothing None e = refl
          nothing (Some k) e = absurd (true≢false (sym e))

          true_bare : (g : Goals) → bare? g ≡ true → g.left ≡ 0 → g.above ≡ None
          true_bare g e z =
              let b : eqb g.left 0 ≡ true = eq-eqb _ _ z in
              nothing g.above (sym (ap (λ (t : Bool). cond t (is_none g.above) true) b) ∙ e)
