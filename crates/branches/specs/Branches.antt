-- What the goals that remain and the steps of a branch mean. A branch is a list of steps, the newest first. Assumes nothing.
use Rattle.std.specs.Prelude.{◌≡◌, ℕ, ◌+◌, ◌<◌, ◌≤◌, cond, List, [], ◌∷◌, ◌++◌, map, length, ◌==◌, Option, Some, None, IfSome}
use Rattle.terms.specs.Terms.{Term}
use Rattle.unification.specs.Variables.{shifted}
use Rattle.resolution.specs.Lines.{Step as Taken, Place}
use Rattle.bindings.specs.Cells.{Cell}
use Rattle.bindings.specs.Meanings.{meaning}
use Rattle.bindings.specs.Texts.{term}
use Rattle.bindings.specs.Trails.{trail, Since, Sound}
use Rattle.bindings.specs.Presents.{presents}
use Rattle.bindings.specs.Checks.{undone}
use Rattle.branches.specs.declared.Goals.{Goals}
use Rattle.branches.specs.declared.Step.{Step}
use Rattle.branches.specs.declared.Clause.{Clause}
use Rattle.branches.specs.Rows.{row, Standing}
use Rattle.branches.specs.Clauses.{clause}

-- ── goals ──

-- all but the first
abbrev pub later : List Term → List Term
later [] = []
later (t ∷ ts) = ts

-- the goals of a row
abbrev pub own : List ℕ → Goals → List Term
own text g = map (shifted g.level) (row text g.place g.left)

-- the goals that remained behind that of the step with this number, which counts from 0; without one there are none
unfoldable pub behind : List ℕ → List Step → Option ℕ → List Term
behind text ss None = []
behind text [] (Some k) = []
behind text (s ∷ ss) (Some k) =
    cond (k == length ss) (later (own text s.goals ++ behind text ss s.goals.above)) (behind text ss (Some k))

-- all goals that remain
abbrev pub remaining : List ℕ → List Step → Goals → List Term
remaining text ss g = own text g ++ behind text ss g.above

-- ── places ──

-- where a search stands: its steps, the cells with the newest bound one, how many are in use, the goals, the rule due
pub record At : Type 0 where
  pub steps : List Step
  pub cells : List Cell
  pub newest : ℕ
  pub used : ℕ
  pub goals : Goals
  pub due : ℕ

-- a step as the search defines it: with the goal it was tried on, the goals behind that one, and the cells, as they were
abbrev pub taken : List ℕ → Step → List Step → List Cell → Taken
taken text s ss was =
    record {
      rule = s.rule;
      goal = meaning (trail text was s.mark) (term text s.goals.place s.goals.level);
      rest = map (meaning (trail text was s.mark)) (later (remaining text ss s.goals));
      cells = presents (trail text was s.mark) s.level;
    }

-- the branch as the search defines it, where the cells are these and h is the newest bound one
unfoldable pub branch : List ℕ → List Step → List Cell → ℕ → List Taken
branch text [] cells h = []
branch text (s ∷ ss) cells h = taken text s ss (undone cells h s.mark) ∷ branch text ss (undone cells h s.mark) s.mark

-- the place as the search defines it
abbrev pub place : List ℕ → At → Place
place text a =
    record {
      goals = map (meaning (trail text a.cells a.newest)) (remaining text a.steps a.goals);
      due = a.due;
      cells = presents (trail text a.cells a.newest) a.used;
      branch = branch text a.steps a.cells a.newest;
    }

-- ── what is kept in order ──

-- a row of goals stands over cells in use, and goes on behind a step of the branch
pub record RowKept (text : List ℕ) (used : ℕ) (ss : List Step) (g : Goals) : Type 0 where
  pub standing : Standing text used g.place g.level g.left
  pub above : IfSome g.above (λ k. k < length ss)

-- the step s on the branch ss: its mark leads back to cells in order, over which its goals stood; its rule's cells came next
pub record StepKept (text : List ℕ) (cs : List Clause) (s : Step) (ss : List Step) (cells : List Cell) (h used : ℕ) : Type 0 where
  pub since : Since (undone cells h s.mark) s.mark cells h
  pub sound : Sound text s.level (undone cells h s.mark) s.mark
  pub rule : s.rule < length cs
  pub cells_next : used ≡ s.level + (clause cs s.rule).variables
  pub some : 1 ≤ s.goals.left
  pub row : RowKept text s.level ss s.goals

-- every step is, and the query's v variables have the first cells
unfoldable pub Kept : List ℕ → List Clause → ℕ → List Step → List Cell → ℕ → ℕ → Type 0
Kept text cs v [] cells h used = used ≡ v
Kept text cs v (s ∷ ss) cells h used =
    StepKept text cs s ss cells h used × Kept text cs v ss (undone cells h s.mark) s.mark s.level

-- all of it is in order
pub record InOrder (text : List ℕ) (cs : List Clause) (v : ℕ) (a : At) : Type 0 where
  pub sound : Sound text a.used a.cells a.newest
  pub kept : Kept text cs v a.steps a.cells a.newest a.used
  pub row : RowKept text a.used a.steps a.goals
  pub bare : a.goals.left ≡ 0 → a.goals.above ≡ None
