-- The steps of a slip, from the steps of a branch as tables keep them. Assumes nothing.
use Rattle.std.proofs.Common.{◌≡◌, ℕ, ◌+◌, ◌<◌, ◌≤◌, List, [], ◌∷◌, ◌++◌, length, take, drop, sym, refl, ap, ◌∙◌, ap₂, append_assoc, append-nil, arith}
use Rattle.terms.specs.Terms.{Term, Rule}
use Rattle.slips.specs.Slips.{SlipStep, steps_of, step_bytes, steps_bytes}
use Rattle.slips.proofs.Own.{steps_bytes_end}
use Rattle.bindings.specs.Cells.{Cell}
use Rattle.bindings.specs.Checks.{undone}
use Rattle.bindings.specs.Trails.{trail}
use Rattle.bindings.proofs.Presents.{presents_length}
use Rattle.branches.specs.declared.Step.{Step}
use Rattle.branches.specs.declared.Clause.{Clause}
use Rattle.branches.specs.Clauses.{clause, rules_at}
use Rattle.branches.specs.Branches.{branch, Kept}
use Rattle.branches.proofs.Dues.{rule_is}

module _ (cs : List Clause) where
  -- a step as a slip has it, where all cells have these terms
  abbrev pub slip_step : List Term → Step → SlipStep
  slip_step cells s = record { rule = s.rule; terms = take (clause cs s.rule).variables (drop s.level cells) }

  -- those of a branch, oldest first
  abbrev pub slip_steps : List Term → List Step → List SlipStep
  slip_steps cells [] = []
  slip_steps cells (s ∷ ss) = slip_steps cells ss ++ (slip_step cells s ∷ [])

  -- how many cells are in use after a branch, where the query has v
  abbrev pub cells_after : ℕ → List Step → ℕ
  cells_after v [] = v
  cells_after v (s ∷ ss) = s.level + (clause cs s.rule).variables

  -- the step's cells come after those of the branch ss, and are among the first ones
  pub record Next (v used : ℕ) (s : Step) (ss : List Step) : Type 0 where
    pub rule : s.rule < length cs
    pub level : s.level ≡ cells_after v ss
    pub inside : s.level + (clause cs s.rule).variables ≤ used

  -- ── bytes ──

  pub one_more : (cells : List Term) (s : Step) (ss : List Step)
      → steps_bytes (slip_steps cells (s ∷ ss)) ≡ steps_bytes (slip_steps cells ss) ++ step_bytes (slip_step cells s)
  one_more cells s ss = steps_bytes_end (slip_steps cells ss) (slip_step cells s)

  -- The bytes of older steps are the first ones.
  pub bytes_older : (cells : List Term) (xs ss : List Step)
      → (rest : List ℕ) × (steps_bytes (slip_steps cells (xs ++ ss)) ≡ steps_bytes (slip_steps cells ss) ++ rest)
  bytes_older cells [] ss = ([], sym (append-nil _))
  bytes_older cells (x ∷ xs) ss =
      let r = bytes_older cells xs ss in (
        r.0 ++ step_bytes (slip_step cells x),
        one_more cells x (xs ++ ss) ∙ ap (λ (bs : List ℕ). bs ++ step_bytes (slip_step cells x)) r.1 ∙ append_assoc _ r.0 _,
      )

  module _ (text : List ℕ) (v : ℕ) where
    -- ── what is kept in order ──

    kept_after : (ss : List Step) (cells : List Cell) (h used : ℕ) → Kept text cs v ss cells h used → used ≡ cells_after v ss
    unfolding Kept
    kept_after [] cells h used k = k
    kept_after (s ∷ ss) cells h used k = k.0.cells_next

    pub kept_next : (xs : List Step) (s : Step) (ss : List Step) (cells : List Cell) (h used : ℕ) → Kept text cs v (xs ++ (s ∷ ss)) cells h used → Next v used s ss
    unfolding Kept
    kept_next [] s ss cells h used k =
        record { rule = k.0.rule; level = kept_after ss _ _ _ k.1; inside = omega (arith, k.0.cells_next) }
    kept_next (x ∷ xs) s ss cells h used k =
        let r = kept_next xs s ss (undone cells h x.mark) x.mark x.level k.1 in
        record { rule = r.rule; level = r.level; inside = omega (arith, r.inside, k.0.cells_next) }

    -- The steps are those that the definition has.
    pub steps_are : (ts : List Term) (ss : List Step) (cells : List Cell) (h used : ℕ) → Kept text cs v ss cells h used
        → steps_of (rules_at text cs) ts (branch text ss cells h) ≡ slip_steps ts ss
    unfolding Kept branch
    steps_are ts [] cells h used k = refl
    steps_are ts (s ∷ ss) cells h used k =
        let was = undone cells h s.mark in
        let n = ap (λ (r : Rule). r.variables) (rule_is text cs s.rule k.0.rule) in
        let l = presents_length (trail text was s.mark) s.level in
        ap₂ (λ (ps : List SlipStep) (t : SlipStep). ps ++ (t ∷ []))
        (steps_are ts ss was s.mark s.level k.1)
        (ap₂ (λ (m i : ℕ). record { rule = s.rule; terms = take m (drop i ts) }) n l)
