-- How far a slip has been checked: what is still to be shown. Assumes nothing.
use Rattle.std.specs.Prelude.{◌≡◌, ℕ, suc, ◌+◌, ◌*◌, ◌≤◌, Bool, true, false, List, [], ◌∷◌, ◌++◌, length, Ok, Err, Result, Some, None, Option}
use Rattle.terms.specs.Terms.{Term}
use Rattle.grammar.specs.Texts.{all_fit}
use Rattle.resolution.specs.Limits.{step_limit}
use Rattle.slips.specs.declared.faults.SlipFault.{SlipFault}
use Rattle.slips.specs.declared.faults.CheckFault.{CheckFault}
use Rattle.slips.specs.declared.faults.CheckFault.TheVariants.{InSlip}
use Rattle.slips.specs.Checker.{step}
use Rattle.slips.specs.Opening.{rules_in}
use Rattle.comparing.specs.declared.Source.TheVariants.{Rule}
use Rattle.comparing.specs.declared.Cursor.{Cursor}
use Rattle.comparing.specs.Stacks.{Stacked}
use Rattle.comparing.specs.Texts.{Sources, Comes}

-- a list has a term
abbrev pub has_some : List Term → Bool
has_some [] = false
has_some (t ∷ ts) = true

-- where the terms of the query's variables and of the steps begin, a stack of cursors, the next byte of the slip, and the
-- steps completed
pub record Tables : Type 0 where
  pub table : List ℕ
  pub frames : List Cursor
  pub place : ℕ
  pub steps : ℕ

-- 64 terms at most for the query and for each step, and so many cursors
pub record Sized (t : Tables) (cursors : ℕ) : Type 0 where
  pub few_terms : length t.table ≤ 64 * (t.steps + 1)
  pub few_frames : length t.frames ≤ cursors
  pub few_steps : t.steps ≤ step_limit

-- the tables without the frames that are taken off
abbrev pub with_frames : Tables → List Cursor → Tables
with_frames t frames = record { table = t.table; frames = frames; place = t.place; steps = t.steps }

-- after a step that ends at q: the goal's cursor behind the goal, and the head's cursor, at the rule's goals, on top
abbrev pub pushed : Tables → List ℕ → Cursor → Cursor → ℕ → Tables
pushed t table goal head q = record { table = table; frames = (t.frames ++ goal ∷ []) ++ head ∷ []; place = q; steps = t.steps + 1 }

-- the cursor at the head of a rule
abbrev pub head_at : ℕ → ℕ → Cursor
head_at i first = record { source = Rule i; place = 5; first = first; inside = None }

-- these goals are to be shown
pub record Stage (s : Sources) (t : Tables) (goals : List Term) : Type 0 where
  pub fit : all_fit s.rules ≡ true
  pub sized : Sized t (t.steps + 1)
  pub stacked : Stacked (Comes s t.table) t.frames goals

-- the goal g, which is next at the cursor c, and then the others
pub record Ready (s : Sources) (t : Tables) (c : Cursor) (g : Term) (goals : List Term) : Type 0 where
  pub fit : all_fit s.rules ≡ true
  pub sized : Sized t t.steps
  pub own : List Term
  pub below : List Term
  pub comes : Comes s t.table c (g ∷ own)
  pub stacked : Stacked (Comes s t.table) t.frames below
  pub goals_are : goals ≡ own ++ below

-- frames that are done are taken off: the top one of the others, which has the next goal, or none where no goal remains
abbrev pub Next : Sources → List ℕ → List Cursor → Option Cursor → List Term → Type 0
Next s table frames None goals = goals ≡ []
Next s table frames (Some c) goals =
    (g : Term) × (own : List Term) × (below : List Term) × Comes s table c (g ∷ own) × Stacked (Comes s table) frames below × (goals ≡ g ∷ (own ++ below))

-- what a step comes to that is to show g before the other goals
abbrev pub Stepped : Sources → Tables → Term → List Term → Result Unit SlipFault → Tables → Type 0
Stepped s t g goals (Err e) u =
    ((more : List Term → ℕ → Result Unit CheckFault) → step (rules_in s.rules) s.slip t.steps t.place g more ≡ Err (InSlip e t.steps)) × (u.steps ≡ t.steps)
Stepped s t g goals (Ok x) u =
    (own : List Term) × ((more : List Term → ℕ → Result Unit CheckFault) → step (rules_in s.rules) s.slip t.steps t.place g more ≡ more own u.place)
    × Stage s u (own ++ goals) × (u.steps ≡ suc t.steps)
