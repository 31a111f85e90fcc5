-- The slip of a place from which no goal remains fits, and passes the checker. Assumes nothing.
use Rattle.std.proofs.Common.{◌≡◌, ℕ, zero, suc, ◌+◌, ◌-◌, ◌≤◌, true, List, [], ◌∷◌, ◌++◌, map, length, take, drop, Ok, sym, refl, ap, ◌∙◌, subst, ap₂, append_assoc, append-nil, add-zero, arith, length-append, length-drop, get_or-drop, get_or-take}
use lib.ListN.{length-map}
use Rattle.std.proofs.lemmas.List.{length-take-le}
use Rattle.std.proofs.lemmas.Bool.{eq-eqb}
use Rattle.terms.specs.declared.Form.TheVariants.{Slips}
use Rattle.terms.specs.Terms.{Term, var, atom, pair, Rule, Query}
use Rattle.terms.specs.Bytes.{encodings, AllFit}
use Rattle.grammar.specs.Singles.{query}
use Rattle.unification.specs.Variables.{Within, AllWithin, shifted}
use Rattle.resolution.specs.Rules.{rule, AllClosed}
use Rattle.resolution.specs.Cells.{cell, present}
use Rattle.resolution.specs.Limits.{step_limit, cell_limit}
use Rattle.resolution.specs.Lines.{Step, Place}
use Rattle.resolution.specs.Laws.{own_head, own_goals, Resolved}
use Rattle.resolution.proofs.Cells.{map_same, map_map, map-append}
use Rattle.resolution.proofs.Declared.{rule_closed, Inside, Tidy}
use Rattle.slips.specs.Slips.{end_byte, all_appeared, renumbered, numbered, SlipStep, steps_of, slip_of, step_bytes, steps_bytes, slip_bytes}
use Rattle.slips.specs.Checker.{unknowns, no_number, terms_at, opens, steps, check}
use Rattle.slips.proofs.Unknowns.{all_appeared_known, few_unknowns}
use Rattle.slips.proofs.Atoms.{AllSmall, all_renumbered_fit}
use Rattle.slips.proofs.Written.{ahead, terms_written, step_passes, FitSteps, FitSlip}

-- ── parts of lists that fit ──

fit_take : (v n : ℕ) (ts : List Term) → AllFit v ts → AllFit v (take n ts)
fit_take v zero ts h = tt
fit_take v (suc n) [] h = tt
fit_take v (suc n) (t ∷ ts) h = (h.0, fit_take v n ts h.1)

fit_drop : (v n : ℕ) (ts : List Term) → AllFit v ts → AllFit v (drop n ts)
fit_drop v zero ts h = h
fit_drop v (suc n) [] h = tt
fit_drop v (suc n) (t ∷ ts) h = fit_drop v n ts h.1

-- ── terms under the terms of a step ──

pub cell_renumbered : (xs : List ℕ) (cells : List Term) (k : ℕ) → cell (map (renumbered xs) cells) k ≡ renumbered xs (cell cells k)
cell_renumbered xs [] k = refl
cell_renumbered xs (t ∷ cells) zero = refl
cell_renumbered xs (t ∷ cells) (suc k) = cell_renumbered xs cells k

-- the v cells from n on, renumbered, are the terms of a rule's variables
present_part : (xs : List ℕ) (cells : List Term) (n v : ℕ) (t : Term) → Within v t
    → present (take v (drop n (map (renumbered xs) cells))) t ≡ renumbered xs (present cells (shifted n t))
present_part xs cells n v (var k) h =
    get_or-take v (drop n (map (renumbered xs) cells)) k (atom 0) h ∙ get_or-drop n (map (renumbered xs) cells) k (atom 0) ∙ cell_renumbered xs cells (n + k)
present_part xs cells n v (atom a) h = refl
present_part xs cells n v (pair s t) h = ap₂ pair (present_part xs cells n v s h.0) (present_part xs cells n v t h.1)

-- the first v of them are those of the query's variables
present_first : (xs : List ℕ) (cells : List Term) (v : ℕ) (t : Term) → Within v t → present (take v (map (renumbered xs) cells)) t ≡ renumbered xs (present cells t)
present_first xs cells v (var k) h = get_or-take v (map (renumbered xs) cells) k (atom 0) h ∙ cell_renumbered xs cells k
present_first xs cells v (atom a) h = refl
present_first xs cells v (pair s t) h = ap₂ pair (present_first xs cells v s h.0) (present_first xs cells v t h.1)

steps_bytes_append : (ss ts : List SlipStep) → steps_bytes (ss ++ ts) ≡ steps_bytes ss ++ steps_bytes ts
steps_bytes_append [] ts = refl
steps_bytes_append (s ∷ ss) ts = ap (λ l. step_bytes s ++ l) (steps_bytes_append ss ts) ∙ sym (append_assoc (step_bytes s) (steps_bytes ss) (steps_bytes ts))

pub steps_bytes_end : (ss : List SlipStep) (s : SlipStep) → steps_bytes (ss ++ (s ∷ [])) ≡ steps_bytes ss ++ step_bytes s
steps_bytes_end ss s = steps_bytes_append ss (s ∷ []) ∙ ap (λ l. steps_bytes ss ++ l) (append-nil (step_bytes s))

-- ── a place whose steps fit ──

pub record Ready (rs : List Rule) (q : Query) (p : Place) : Type 0 where
  pub tidy : Tidy rs q p.goals p.cells p.branch
  pub resolved : Resolved rs q p.cells p.branch p.goals
  pub small : AllSmall p.cells
  pub few_steps : length p.branch ≤ step_limit
  pub few_cells : length p.cells ≤ cell_limit

module _ (rs : List Rule) (q : Query) (closed : AllClosed rs) (few : length rs ≤ no_number) where
  module _ (cells : List Term) (xs : List ℕ) (fit : AllFit unknowns (map (renumbered xs) cells)) where
    abbrev made : Step → SlipStep
    made f = record { rule = f.rule; terms = take (rule rs f.rule).variables (drop (length f.cells) (map (renumbered xs) cells)) }

    made_fit : (f : Step) → AllFit unknowns (made f).terms
    made_fit f = fit_take unknowns (rule rs f.rule).variables (drop (length f.cells) (map (renumbered xs) cells)) (fit_drop unknowns (length f.cells) (map (renumbered xs) cells) fit)

    made_count : (f : Step) → length f.cells + (rule rs f.rule).variables ≤ length cells → length (made f).terms ≡ (rule rs f.rule).variables
    made_count f l =
        length-take-le (rule rs f.rule).variables (drop (length f.cells) (map (renumbered xs) cells))
        (omega (arith, l, length-drop (length f.cells) (map (renumbered xs) cells), length-map cells (renumbered xs)))

    -- the goals of a step's rule under its terms
    own_made : (f : Step) → map (present (made f).terms) (rule rs f.rule).goals ≡ map (renumbered xs) (own_goals rs cells f)
    own_made f =
        map_same (rule rs f.rule).variables (present (made f).terms) (λ t. renumbered xs (present cells (shifted (length f.cells) t)))
        (present_part xs cells (length f.cells) (rule rs f.rule).variables) (rule rs f.rule).goals (rule_closed rs f.rule closed).1
        ∙ sym (map_map (λ t. renumbered xs (present cells t)) (shifted (length f.cells)) (rule rs f.rule).goals)
        ∙ sym (map_map (renumbered xs) (present cells) (map (shifted (length f.cells)) (rule rs f.rule).goals))

    abbrev start : List Term
    start = map (renumbered xs) (map (present cells) q.goals)

    -- the steps of a branch pass, oldest first, and leave the goals that remain
    branch_passes : (fs : List Step) (goals : List Term) → Inside rs (length cells) fs → Resolved rs q cells fs goals → (slip more : List ℕ) (p left : ℕ) → length fs ≤ step_limit
        → drop p slip ≡ steps_bytes (steps_of rs (map (renumbered xs) cells) fs) ++ more
        → steps rs slip (left + length fs) 0 p start ≡ steps rs slip left (length fs) (p + length (steps_bytes (steps_of rs (map (renumbered xs) cells) fs))) (map (renumbered xs) goals)
    branch_passes [] goals i e slip more p left l d =
        ap (λ k. steps rs slip k 0 p start) (add-zero left)
        ∙ ap (λ m. steps rs slip left 0 m start) (sym (add-zero p))
        ∙ ap (λ gs. steps rs slip left 0 (p + 0) (map (renumbered xs) gs)) (sym e)
    branch_passes (f ∷ fs) goals i (rest, e, r) slip more p left l d =
        ap (λ k. steps rs slip k 0 p start) (let k : left + suc (length fs) ≡ suc left + length fs = omega arith in k)
        ∙ branch_passes fs (own_head rs cells f ∷ rest) i.2 r slip (step_bytes s ++ more) p (suc left) (omega (arith, l)) before
        ∙ step_passes rs slip (length fs) here (renumbered xs (own_head rs cells f)) (λ own q. steps rs slip left (suc (length fs)) q (own ++ map (renumbered xs) rest)) s more
        (ahead p slip (steps_bytes older) (step_bytes s ++ more) before) (omega (arith, l)) i.0 (omega (arith, i.0, few)) (made_count f i.1) (made_fit f)
        (present_part xs cells (length f.cells) (rule rs f.rule).variables (rule rs f.rule).head (rule_closed rs f.rule closed).0)
        ∙ ap (λ gs. steps rs slip left (suc (length fs)) (here + length (step_bytes s)) gs)
        (ap (λ gs. gs ++ map (renumbered xs) rest) (own_made f) ∙ sym (map-append (renumbered xs) (own_goals rs cells f) rest) ∙ ap (map (renumbered xs)) (sym e))
        ∙ ap (λ m. steps rs slip left (suc (length fs)) m (map (renumbered xs) goals))
        (omega (arith, ap length bytes, length-append (steps_bytes older) (step_bytes s)))
      where
        s : SlipStep
        s = made f

        older : List SlipStep
        older = steps_of rs (map (renumbered xs) cells) fs

        here : ℕ
        here = p + length (steps_bytes older)

        bytes : steps_bytes (older ++ (s ∷ [])) ≡ steps_bytes older ++ step_bytes s
        bytes = steps_bytes_end older s

        before : drop p slip ≡ steps_bytes older ++ (step_bytes s ++ more)
        before = d ∙ ap (λ l. l ++ more) bytes ∙ append_assoc (steps_bytes older) (step_bytes s) more

    steps_fit_made : (fs : List Step) (ss : List SlipStep) → FitSteps ss → FitSteps (steps_of rs (map (renumbered xs) cells) fs ++ ss)
    steps_fit_made [] ss h = h
    steps_fit_made (f ∷ fs) ss h =
        subst FitSteps (sym (append_assoc (steps_of rs (map (renumbered xs) cells) fs) (made f ∷ []) ss)) (steps_fit_made fs (made f ∷ ss) (made_fit f, h))

    steps_count : (fs : List Step) → length (steps_of rs (map (renumbered xs) cells) fs) ≡ length fs
    steps_count [] = refl
    steps_count (f ∷ fs) = let n = steps_count fs in omega (arith, n, length-append (steps_of rs (map (renumbered xs) cells) fs) (made f ∷ []))

  numbered_fit : (p : Place) → Ready rs q p → AllFit unknowns (numbered p.cells)
  numbered_fit p k =
      let few_enough = few_unknowns (length p.cells) p.cells k.tidy.cells_within in
      all_renumbered_fit (all_appeared [] p.cells) unknowns (omega (arith, few_enough, k.few_cells)) p.cells (all_appeared_known [] p.cells) k.small

  pub first_count : (p : Place) → Ready rs q p → length (take q.variables (numbered p.cells)) ≡ q.variables
  first_count p k = length-take-le q.variables (numbered p.cells) (omega (arith, k.tidy.wide, length-map p.cells (renumbered (all_appeared [] p.cells))))

  -- the slip of such a place fits
  pub slip_fits : (p : Place) → Ready rs q p → FitSlip (slip_of rs q p)
  slip_fits p k =
      record {
        first_fit = fit_take unknowns q.variables (numbered p.cells) (numbered_fit p k);
        steps_fit = subst FitSteps (append-nil (steps_of rs (numbered p.cells) p.branch))
            (steps_fit_made p.cells (all_appeared [] p.cells) (numbered_fit p k) p.branch [] tt);
        few = omega (arith, k.few_steps, steps_count p.cells (all_appeared [] p.cells) (numbered_fit p k) p.branch);
      }

  -- and where no goal remains, passes
  pub slip_passes : (bs : List ℕ) → query bs ≡ Ok q → AllWithin q.variables q.goals → (p : Place) → Ready rs q p → p.goals ≡ [] → check rs bs (slip_bytes (slip_of rs q p)) ≡ Ok tt
  slip_passes bs e w p k none = rw (e, h1, h2) (goals_as ∙ walked ∙ ended)
    where
      xs : List ℕ
      xs = all_appeared [] p.cells

      ts : List Term
      ts = numbered p.cells

      first : List Term
      first = take q.variables ts

      made_steps : List ℕ
      made_steps = steps_bytes (steps_of rs ts p.branch)

      slip : List ℕ
      slip = slip_bytes (slip_of rs q p)

      here : ℕ
      here = 2 + length (encodings Slips first)

      at : drop here slip ≡ made_steps ++ (end_byte ∷ [])
      at = ahead 2 slip (encodings Slips first) (made_steps ++ (end_byte ∷ [])) refl

      h1 : opens q.variables slip ≡ true
      h1 = eq-eqb (length first) q.variables (first_count p k)

      h2 : terms_at q.variables 2 slip ≡ Ok (first, here)
      h2 =
          terms_written slip 2 q.variables first (made_steps ++ (end_byte ∷ [])) refl (first_count p k)
          (fit_take unknowns q.variables ts (numbered_fit p k))

      goals_as : steps rs slip step_limit 0 here (map (present first) q.goals) ≡ steps rs slip step_limit 0 here (map (renumbered xs) (map (present p.cells) q.goals))
      goals_as =
          ap (steps rs slip step_limit 0 here)
          (map_same q.variables (present first) (λ t. renumbered xs (present p.cells t)) (present_first xs p.cells q.variables) q.goals w
          ∙ sym (map_map (renumbered xs) (present p.cells) q.goals))

      left : ℕ
      left = step_limit - length p.branch

      walked : steps rs slip step_limit 0 here (map (renumbered xs) (map (present p.cells) q.goals))
          ≡ steps rs slip left (length p.branch) (here + length made_steps) (map (renumbered xs) p.goals)
      walked =
          ap (λ n. steps rs slip n 0 here (map (renumbered xs) (map (present p.cells) q.goals))) (let n : step_limit ≡ left + length p.branch = omega (arith, k.few_steps) in n)
          ∙ branch_passes p.cells xs (numbered_fit p k) p.branch p.goals k.tidy.inside k.resolved slip (end_byte ∷ []) here left k.few_steps at

      ended : steps rs slip left (length p.branch) (here + length made_steps) (map (renumbered xs) p.goals) ≡ Ok tt
      ended = rw (none, ahead here slip made_steps (end_byte ∷ []) at) refl
