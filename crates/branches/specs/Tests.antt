-- Tests whether clauses stand in the text, and whether goals, steps and cells are in order. Assumes nothing.
use Rattle.std.specs.Prelude.{ℕ, zero, suc, ◌+◌, Bool, true, cond, ◌&&◌, List, [], ◌∷◌, length, ◌==◌, nat_le, nat_lt, Option, Some, None, is_none}
use Rattle.bindings.specs.Cells.{Cell}
use Rattle.bindings.specs.Checks.{stands?, declares?, undone, marked?, sound?}
use Rattle.branches.specs.declared.Goals.{Goals}
use Rattle.branches.specs.declared.Step.{Step}
use Rattle.branches.specs.declared.Clause.{Clause}
use Rattle.branches.specs.Rows.{after}
use Rattle.branches.specs.Clauses.{clause}
use Rattle.branches.specs.Branches.{At}

-- n terms stand from p on, and their own variables are below v
unfoldable pub declared? : List ℕ → ℕ → ℕ → ℕ → Bool
declared? text v p zero = true
declared? text v p (suc n) = declares? text v p && declared? text v (after text p) n

-- n terms stand from p on, and their variables from the cell l on are below m
unfoldable pub standing? : List ℕ → ℕ → ℕ → ℕ → ℕ → Bool
standing? text m p l zero = true
standing? text m p l (suc n) = stands? text m p l && standing? text m (after text p) l n

-- head and goals stand in the text and name only declared variables
unfoldable pub stated? : List ℕ → Clause → Bool
stated? text c = declares? text c.variables c.head && declared? text c.variables c.body c.goals

unfoldable pub all_stated? : List ℕ → List Clause → Bool
all_stated? text [] = true
all_stated? text (c ∷ cs) = stated? text c && all_stated? text cs

-- where there is a number, it is below n
unfoldable pub below? : Option ℕ → ℕ → Bool
below? None n = true
below? (Some k) n = nat_lt k n

-- a row of goals stands over cells in use, and goes on behind a step of the branch
unfoldable pub row_kept? : List ℕ → ℕ → List Step → Goals → Bool
row_kept? text used ss g = standing? text used g.place g.level g.left && below? g.above (length ss)

-- the step s on the branch ss is in order
unfoldable pub step_kept? : List ℕ → List Clause → Step → List Step → List Cell → ℕ → ℕ → Bool
step_kept? text cs s ss cells h used =
    marked? cells h s.mark
    && (sound? text s.level (undone cells h s.mark) s.mark
    && (nat_lt s.rule (length cs)
    && (used == s.level + (clause cs s.rule).variables
    && (nat_le 1 s.goals.left
    && row_kept? text s.level ss s.goals))))

-- every step is, and the query's v variables have the first cells
unfoldable pub kept? : List ℕ → List Clause → ℕ → List Step → List Cell → ℕ → ℕ → Bool
kept? text cs v [] cells h used = used == v
kept? text cs v (s ∷ ss) cells h used =
    step_kept? text cs s ss cells h used && kept? text cs v ss (undone cells h s.mark) s.mark s.level

-- a row without goals goes on nowhere
unfoldable pub bare? : Goals → Bool
bare? g = cond (g.left == 0) (is_none g.above) true

-- all of it is in order
unfoldable pub in_order? : List ℕ → List Clause → ℕ → At → Bool
in_order? text cs v a =
    sound? text a.used a.cells a.newest
    && (kept? text cs v a.steps a.cells a.newest a.used
    && (row_kept? text a.used a.steps a.goals
    && bare? a.goals))
