-- The moves of a search in its tables, and what they are by the definition. Assumes nothing.
use Rattle.std.proofs.Common.{◌≡◌, ℕ, zero, suc, ◌+◌, ◌<◌, ◌≤◌, true, List, [], ◌∷◌, ◌++◌, map, length, get_or, sym, refl, ap, ◌∙◌, subst, ap₂, append-nil, map-id, le_refl, arith, Some, None, IfSome}
use mathlib.Core.Option.{some}
use Rattle.terms.specs.Terms.{Term}
use Rattle.unification.specs.Variables.{shifted}
use Rattle.unification.specs.Substitutions.{Substitution, apply}
use Rattle.resolution.specs.Cells.{fresh}
use Rattle.resolution.specs.Lines.{Step as Taken, Place, landed}
use Rattle.resolution.proofs.Cells.{map-append}
use Rattle.bindings.specs.Cells.{Cell}
use Rattle.bindings.specs.Meanings.{Trail, meaning}
use Rattle.bindings.specs.Texts.{term}
use Rattle.bindings.specs.Trails.{trail, Since, Sound, none_bound}
use Rattle.bindings.specs.Presents.{presents}
use Rattle.bindings.specs.Checks.{undone}
use Rattle.bindings.proofs.Texts.{shifted_zero}
use Rattle.bindings.proofs.Links.{free_trail, free_sound}
use Rattle.bindings.proofs.Presents.{meaning_fresh, presents_length, map_apply}
use Rattle.branches.specs.declared.Goals.{Goals}
use Rattle.branches.specs.declared.Step.{Step}
use Rattle.branches.specs.declared.Clause.{Clause}
use Rattle.branches.specs.Rows.{row, Declared}
use Rattle.branches.specs.Clauses.{clause, rule_at, Stated}
use Rattle.branches.specs.Branches.{later, behind, remaining, At, taken, branch, place, RowKept, Kept, InOrder}
use Rattle.branches.specs.Moves.{off}
use Rattle.branches.proofs.Rows.{standing_more, declared_standing}
use Rattle.branches.proofs.Remaining.{below_more, behind_newest, remaining_older, remaining_first}

placed : {gs hs : List Term} {cs ds : List Term} {bs es : List Taken} (n : ℕ) → gs ≡ hs → cs ≡ ds → bs ≡ es
    → ◌≡◌ {A = Place} (record { goals = gs; due = n; cells = cs; branch = bs }) (record { goals = hs; due = n; cells = ds; branch = es })
placed {gs} {hs} {cs} {ds} {bs} {es} n g c b =
    ap (λ (x : List Term). record { goals = x; due = n; cells = cs; branch = bs }) g
    ∙ ap₂ (λ (x : List Term) (y : List Taken). record { goals = hs; due = n; cells = x; branch = y }) c b

-- ── opening and rewinding ──

shifted_none : (ts : List Term) → map (shifted 0) ts ≡ ts
shifted_none [] = refl
shifted_none (t ∷ ts) = ap₂ ◌∷◌ (shifted_zero t) (shifted_none ts)

module _ (text : List ℕ) (v body n : ℕ) (cells : List Cell) (free : (i : ℕ) → get_or cells i None ≡ None) where
  -- where a search stands at opening: no step, no bound cell, and the query's goals
  abbrev pub at_start : At
  at_start =
      record { steps = []; cells = cells; newest = none_bound; used = v; goals = record { place = body; level = 0; left = n; above = None }; due = 0 }

  pub start_place : place text at_start ≡ record { goals = row text body n; due = 0; cells = fresh 0 v; branch = [] }
  unfolding behind branch
  start_place =
      let none : trail text cells none_bound ≡ [] = free_trail text cells free in
      placed 0
      (ap (λ (L : Trail). map (meaning L) (map (shifted 0) (row text body n) ++ [])) none ∙ map-id _ ∙ append-nil _ ∙ shifted_none _)
      (ap (λ (L : Trail). presents L v) none ∙ map-id (fresh 0 v)) refl

  pub start_in_order : (cs : List Clause) → length text < 65536 → v ≤ length cells → length cells ≤ none_bound → Declared text v body n → InOrder text cs v at_start
  unfolding Kept
  start_in_order cs short room few d =
      record {
        sound = free_sound text v cells short room few free;
        kept = refl;
        row = record { standing = declared_standing text v 0 v body n (omega arith) d; above = tt };
        bare = λ e. refl;
      }

-- ── going back ──

module _ (text : List ℕ) (cs : List Clause) (v : ℕ) (s : Step) (ss : List Step) (cells : List Cell) (h : ℕ) where
  -- where a search stands after the newest step is taken off
  abbrev pub at_back : At
  at_back =
      record { steps = ss; cells = undone cells h s.mark; newest = s.mark; used = s.level; goals = s.goals; due = suc s.rule }

  pub off_place : (p : Place) → 1 ≤ s.goals.left → off (branch text (s ∷ ss) cells h) p ≡ (true, place text at_back)
  unfolding branch
  off_place p l =
      let L = trail text (undone cells h s.mark) s.mark in
      ap (λ (ts : List Term). (true, record { goals = ts; due = suc s.rule; cells = presents L s.level; branch = branch text ss (undone cells h s.mark) s.mark }))
      (sym (first_of s.goals.left refl l))
    where
      first_of : (k : ℕ) → s.goals.left ≡ k → 1 ≤ k → map (meaning (trail text (undone cells h s.mark) s.mark)) (remaining text ss s.goals)
          ≡ (taken text s ss (undone cells h s.mark)).goal ∷ (taken text s ss (undone cells h s.mark)).rest
      first_of zero e l = absurd (omega (arith, l))
      first_of (suc k) e l = ap (map (meaning (trail text (undone cells h s.mark) s.mark))) (remaining_first text ss s.goals k e)

  pub back_in_order : (used : ℕ) → Kept text cs v (s ∷ ss) cells h used → InOrder text cs v at_back
  unfolding Kept
  back_in_order used q =
      let k = q.0 in
      record { sound = k.sound; kept = q.1; row = k.row; bare = λ e. absurd (omega (arith, e, k.some)) }

-- ── a rule is taken ──

module _ (text : List ℕ) (cs : List Clause) (v : ℕ) (a : At) (c : Clause) (σ : Substitution) (cells' : List Cell) (h' : ℕ) (g' : Goals) where
  -- the step that takes the rule due
  abbrev pub new_step : Step
  new_step = record { rule = a.due; goals = a.goals; level = a.used; mark = a.newest }

  -- where a search stands after it
  abbrev pub at_taken : At
  at_taken =
      record { steps = new_step ∷ a.steps; cells = cells'; newest = h'; used = a.used + c.variables; goals = g'; due = 0 }

  module _ (sound : Sound text a.used a.cells a.newest)
      (means : (t : Term) → meaning (trail text cells' h') t ≡ apply σ (meaning (trail text a.cells a.newest) t))
      (terms : presents (trail text cells' h') (a.used + c.variables) ≡ map (apply σ) (presents (trail text a.cells a.newest) a.used ++ fresh (length (presents (trail text a.cells a.newest) a.used)) c.variables))
      (undo : undone cells' h' a.newest ≡ a.cells)
      (goals : remaining text (new_step ∷ a.steps) g' ≡ map (shifted a.used) (row text c.body c.goals) ++ later (remaining text a.steps a.goals)) where
    fresh_mean : (ts : List Term) → map (meaning (trail text a.cells a.newest)) (map (shifted a.used) ts) ≡ map (shifted (length (presents (trail text a.cells a.newest) a.used))) ts
    fresh_mean ts = by ts ∙ ap (λ (n : ℕ). map (shifted n) ts) (sym (presents_length (trail text a.cells a.newest) a.used))
      where
        by : (ts : List Term) → map (meaning (trail text a.cells a.newest)) (map (shifted a.used) ts) ≡ map (shifted a.used) ts
        by [] = refl
        by (t ∷ ts) = ap₂ ◌∷◌ (meaning_fresh sound a.used t (le_refl a.used)) (by ts)

    pub taken_place : place text at_taken
        ≡ landed (place text a) (rule_at text c) (meaning (trail text a.cells a.newest) (term text a.goals.place a.goals.level))
        (map (meaning (trail text a.cells a.newest)) (later (remaining text a.steps a.goals))) (some σ)
    unfolding branch
    taken_place =
        let L = trail text a.cells a.newest in
        let own_goals : List Term = map (shifted a.used) (row text c.body c.goals) in
        let rest : List Term = later (remaining text a.steps a.goals) in
        placed 0
        (ap (map (meaning (trail text cells' h'))) goals
        ∙ map_apply σ L (trail text cells' h') means (own_goals ++ rest)
        ∙ ap (map (apply σ)) (map-append (meaning L) own_goals rest ∙ ap (λ (ts : List Term). ts ++ map (meaning L) rest) (fresh_mean (row text c.body c.goals))))
        terms
        (ap (λ (was : List Cell). taken text new_step a.steps was ∷ branch text a.steps was a.newest) undo)

  -- The steps are kept in order with the new one.
  pub taken_kept : InOrder text cs v a → undone cells' h' a.newest ≡ a.cells → Since a.cells a.newest cells' h'
      → a.due < length cs → clause cs a.due ≡ c → 1 ≤ a.goals.left → Kept text cs v (new_step ∷ a.steps) cells' h' (a.used + c.variables)
  unfolding Kept
  taken_kept order undo since due is l = (
    record {
      since = subst (λ (was : List Cell). Since was a.newest cells' h') (sym undo) since;
      sound = subst (λ (was : List Cell). Sound text a.used was a.newest) (sym undo) order.sound;
      rule = due;
      cells_next = ap (λ (x : Clause). a.used + x.variables) (sym is);
      some = l;
      row = order.row;
    },
    subst (λ (was : List Cell). Kept text cs v a.steps was a.newest a.used) (sym undo) order.kept,
  )

  -- A rule with goals has them first; behind them is what was behind the goal.
  pub with_goals : g' ≡ record { place = c.body; level = a.used; left = c.goals; above = Some (length a.steps) }
      → remaining text (new_step ∷ a.steps) g' ≡ map (shifted a.used) (row text c.body c.goals) ++ later (remaining text a.steps a.goals)
  with_goals e =
      ap (remaining text (new_step ∷ a.steps)) e
      ∙ ap (λ (ts : List Term). map (shifted a.used) (row text c.body c.goals) ++ ts) (behind_newest text new_step a.steps)

  pub with_goals_kept : Stated text c → g' ≡ record { place = c.body; level = a.used; left = c.goals; above = Some (length a.steps) }
      → RowKept text (a.used + c.variables) (new_step ∷ a.steps) g'
  with_goals_kept d e =
      subst (RowKept text (a.used + c.variables) (new_step ∷ a.steps)) (sym e)
      (record { standing = declared_standing text c.variables a.used (a.used + c.variables) c.body c.goals (le_refl _) d.goals; above = le_refl _ })

  -- A rule without goals leaves what was behind the goal.
  pub without_goals : c.goals ≡ 0 → IfSome a.goals.above (λ k. k < length a.steps)
      → remaining text (new_step ∷ a.steps) g' ≡ later (remaining text (new_step ∷ a.steps) a.goals)
      → remaining text (new_step ∷ a.steps) g' ≡ map (shifted a.used) (row text c.body c.goals) ++ later (remaining text a.steps a.goals)
  without_goals e l r =
      r ∙ ap later (remaining_older text new_step a.steps a.goals l)
      ∙ sym (ap (λ (n : ℕ). map (shifted a.used) (row text c.body n) ++ later (remaining text a.steps a.goals)) e)

  -- The goals that stood still stand.
  pub still_kept : RowKept text a.used a.steps a.goals → RowKept text (a.used + c.variables) (new_step ∷ a.steps) a.goals
  still_kept k =
      record {
        standing = standing_more text a.used (a.used + c.variables) a.goals.place a.goals.level a.goals.left (omega arith) k.standing;
        above = below_more a.goals.above (length a.steps) (length (new_step ∷ a.steps)) (omega arith) k.above;
      }
