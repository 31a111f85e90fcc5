-- The goals that remain. Assumes nothing.
use Rattle.std.proofs.Common.{◌≡◌, ℕ, suc, ◌<◌, ◌≤◌, Bool, false, cond, eqb, List, [], ◌∷◌, ◌++◌, map, length, sym, refl, ap, ◌∙◌, arith, eqb-true, ne_eqb, Option, Some, None, IfSome}
use lib.Dec.{eqb_refl}
use Rattle.terms.specs.Terms.{Term}
use Rattle.unification.specs.Variables.{shifted}
use Rattle.unification.proofs.Choice.{T→true, cond_at}
use Rattle.std.proofs.lemmas.Bool.{eqb-false}
use Rattle.bindings.specs.Cells.{Cell}
use Rattle.bindings.specs.Texts.{term}
use Rattle.bindings.specs.Checks.{undone}
use Rattle.branches.specs.declared.Goals.{Goals}
use Rattle.branches.specs.declared.Step.{Step}
use Rattle.branches.specs.declared.Clause.{Clause}
use Rattle.branches.specs.Rows.{after, row, Standing}
use Rattle.branches.specs.Branches.{later, own, behind, remaining, Kept}
use Rattle.branches.proofs.Rows.{standing_more}

-- A number below k is below every n that is no smaller.
pub below_more : (o : Option ℕ) (k n : ℕ) → k ≤ n → IfSome o (λ i. i < k) → IfSome o (λ i. i < n)
below_more None k n h b = tt
below_more (Some i) k n h b = omega (arith, h, b)

module _ (text : List ℕ) where
  -- A step on top changes nothing of what remained behind older ones.
  pub behind_older : (s : Step) (ss : List Step) (above : Option ℕ) → IfSome above (λ k. k < length ss) → behind text (s ∷ ss) above ≡ behind text ss above
  unfolding behind
  behind_older s ss None h = refl
  behind_older s ss (Some k) h =
      ap (λ (b : Bool). cond b (later (own text s.goals ++ behind text ss s.goals.above)) (behind text ss (Some k))) (ne_eqb k (length ss) (λ e. omega (arith, h, e)))

  pub behind_newest : (s : Step) (ss : List Step) → behind text (s ∷ ss) (Some (length ss)) ≡ later (remaining text ss s.goals)
  unfolding behind
  behind_newest s ss =
      ap (λ (b : Bool). cond b (later (own text s.goals ++ behind text ss s.goals.above)) (behind text ss (Some (length ss)))) (T→true (eqb (length ss) (length ss)) (eqb_refl (length ss)))

  pub remaining_older : (s : Step) (ss : List Step) (g : Goals) → IfSome g.above (λ k. k < length ss) → remaining text (s ∷ ss) g ≡ remaining text ss g
  remaining_older s ss g h = ap (λ (ts : List Term). own text g ++ ts) (behind_older s ss g.above h)

  -- The first of the goals that remain, and those behind it.
  pub remaining_first : (ss : List Step) (g : Goals) (n : ℕ) → g.left ≡ suc n
      → remaining text ss g ≡ term text g.place g.level ∷ later (remaining text ss g)
  remaining_first ss g n e =
      let of : ℕ → List Term = λ (k : ℕ). map (shifted g.level) (row text g.place k) ++ behind text ss g.above in
      ap of e ∙ sym (ap (λ (k : ℕ). term text g.place g.level ∷ later (of k)) e)

  -- Behind the first of several goals of a row come the others.
  pub later_next : (ss : List Step) (g : Goals) (n : ℕ) → g.left ≡ suc n
      → later (remaining text ss g) ≡ map (shifted g.level) (row text (after text g.place) n) ++ behind text ss g.above
  later_next ss g n e = ap (λ (k : ℕ). later (map (shifted g.level) (row text g.place k) ++ behind text ss g.above)) e

  -- Behind a row's last goal comes what remained behind the step above.
  pub later_above : (ss : List Step) (g : Goals) → g.left ≡ 1 → later (remaining text ss g) ≡ behind text ss g.above
  later_above ss g e = later_next ss g 0 e

-- the step with the number k, counted from 0
unfoldable pub step_at : List Step → ℕ → Step
step_at [] k = record { rule = 0; goals = record { place = 0; level = 0; left = 0; above = None }; level = 0; mark = 0 }
step_at (s ∷ ss) k = cond (eqb k (length ss)) s (step_at ss k)

module _ (text : List ℕ) (cs : List Clause) (v : ℕ) where
  -- a step of the branch was tried on some goals that stand over cells in use and go on behind an older step
  pub record TriedOn (used k : ℕ) (s : Step) : Type 0 where
    pub some : 1 ≤ s.goals.left
    pub standing : Standing text used s.goals.place s.goals.level s.goals.left
    pub above : IfSome s.goals.above (λ i. i < k)

  pub kept_query : (ss : List Step) (cells : List Cell) (h used : ℕ) → Kept text cs v ss cells h used → v ≤ used
  unfolding Kept
  kept_query [] cells h used q = omega (arith, q)
  kept_query (s ∷ ss) cells h used q = omega (arith, q.0.cells_next, kept_query ss (undone cells h s.mark) s.mark s.level q.1)

  pub kept_at : (ss : List Step) (cells : List Cell) (h used k : ℕ) → Kept text cs v ss cells h used → k < length ss → TriedOn used k (step_at ss k)
  unfolding Kept step_at
  kept_at [] cells h used k q l = absurd (omega (arith, l))
  kept_at (s ∷ ss) cells h used k q l =
      cond_at (TriedOn used k) (eqb k (length ss))
      (λ e. record {
        some = q.0.some;
        standing = standing_more text s.level used s.goals.place s.goals.level s.goals.left (omega (arith, q.0.cells_next)) q.0.row.standing;
        above = below_more s.goals.above (length ss) k (omega (arith, eqb-true k (length ss) e)) q.0.row.above;
      })
      (λ e. let l' : k < length ss = below e in
      let r = kept_at ss (undone cells h s.mark) s.mark s.level k q.1 l' in
      record {
        some = r.some;
        standing = standing_more text s.level used (step_at ss k).goals.place (step_at ss k).goals.level (step_at ss k).goals.left (omega (arith, q.0.cells_next)) r.standing;
        above = r.above;
      })
    where
      below : eqb k (length ss) ≡ false → k < length ss
      below e = let n : k ≡ length ss → ⊥ = eqb-false k (length ss) e in omega (arith, l, n)

  -- What remained behind a step is what is behind the goal that it was tried on.
  pub behind_at : (ss : List Step) (cells : List Cell) (h used k : ℕ) → Kept text cs v ss cells h used → k < length ss
      → behind text ss (Some k) ≡ later (remaining text ss (step_at ss k).goals)
  unfolding Kept step_at
  behind_at [] cells h used k q l = absurd (omega (arith, l))
  behind_at (s ∷ ss) cells h used k q l =
      cond_at (λ (x : Step). behind text (s ∷ ss) (Some k) ≡ later (remaining text (s ∷ ss) x.goals)) (eqb k (length ss))
      (λ e. ap (λ (n : ℕ). behind text (s ∷ ss) (Some n)) (eqb-true k (length ss) e) ∙ behind_newest text s ss ∙ ap later (sym (remaining_older text s ss s.goals q.0.row.above)))
      (λ e. let l' : k < length ss = below e in
      let t = kept_at ss (undone cells h s.mark) s.mark s.level k q.1 l' in
      behind_older text s ss (Some k) l'
      ∙ behind_at ss (undone cells h s.mark) s.mark s.level k q.1 l'
      ∙ ap later (sym (remaining_older text s ss (step_at ss k).goals (below_more (step_at ss k).goals.above k (length ss) (omega (arith, l')) t.above))))
    where
      below : eqb k (length ss) ≡ false → k < length ss
      below e = let n : k ≡ length ss → ⊥ = eqb-false k (length ss) e in omega (arith, l, n)
