-- A try of a rule on a goal under the cells, by what the definition of unification finds. Assumes nothing.
use Rattle.std.specs.Prelude.{◌≡◌, ℕ, ◌+◌, ◌≤◌, Bool, true, false, List, ◌++◌, map, length}
use Rattle.std.proofs.Math.Option.{Option, none, some}
use Rattle.terms.specs.Terms.{Term}
use Rattle.unification.specs.Variables.{shifted}
use Rattle.unification.specs.Substitutions.{Substitution, apply}
use Rattle.unification.specs.Unification.{unify}
use Rattle.resolution.specs.Cells.{fresh}
use Rattle.resolution.specs.Limits.{cell_limit}
use Rattle.bindings.specs.Cells.{Cell}
use Rattle.bindings.specs.declared.TermAt.{TermAt}
use Rattle.bindings.specs.Texts.{tree, Declares}
use Rattle.bindings.specs.Trails.{Since, trail, Sound, TermIn, meaning_at}
use Rattle.bindings.specs.Endings.{Applied}
use Rattle.bindings.specs.Presents.{presents}
use Rattle.branches.specs.declared.Goals.{Goals}
use Rattle.machine.specs.declared.cells.Cells.{Cells}
use Rattle.machine.specs.declared.attempt.Head.{Head}

-- the first of a row of goals
abbrev pub first_at : Goals → TermAt
first_at g = record { place = g.place; level = g.level }

-- cells in order over a text
abbrev pub Ordered : List ℕ → Cells → Type 0
Ordered text c = Sound text c.used c.table c.newest

-- the present term of each cell in use
abbrev pub cell_terms : List ℕ → Cells → List Term
cell_terms text c = presents (trail text c.table c.newest) c.used

-- the present term of a goal
abbrev pub goal_term : List ℕ → Cells → TermAt → Term
goal_term text c g = meaning_at text c.table c.newest g

-- what unification finds for the rule's head, over fresh cells, and the goal
abbrev pub found : List ℕ → Cells → Head → TermAt → Option Substitution
found text c r g = unify (shifted c.used (tree text r.place)) (goal_term text c g)

-- a try can be made: the cells are in order, head and goal stand in the text, and enough cells are left
pub record Ready (text : List ℕ) (c : Cells) (r : Head) (g : TermAt) : Type 0 where
  pub ordered : Ordered text c
  pub head : Declares text r.variables r.place
  pub goal : TermIn text c.used g
  pub room : c.used + r.variables ≤ cell_limit

-- the rule is taken: its variables have the fresh cells, what was found is put in everywhere, and older marks stand
pub record Taken (text : List ℕ) (c : Cells) (v : ℕ) (c' : Cells) (σ : Substitution) : Type 0 where
  pub used : c'.used ≡ c.used + v
  pub applied : Applied text (c.used + v) c.table c.newest c'.table c'.newest σ
  pub terms : cell_terms text c' ≡ map (apply σ) (cell_terms text c ++ fresh (length (cell_terms text c)) v)
  pub since : (was : List Cell) (m : ℕ) → Since was m c.table c.newest → Since was m c'.table c'.newest

-- no where nothing is found, and the cells are as they were; else yes, and the rule is taken
abbrev pub Outcome : List ℕ → Cells → ℕ → Cells → Option Substitution → Bool → Type 0
Outcome text c v c' none r = (r ≡ false) × (c' ≡ c)
Outcome text c v c' (some σ) r = (r ≡ true) × Taken text c v c' σ

-- a try of the rule on the goal under the cells c says yes or no and leaves the cells c'
pub record Tried (text : List ℕ) (c : Cells) (r : Head) (g : TermAt) (c' : Cells) (yes' : Bool) : Type 0 where
  pub outcome : Outcome text c r.variables c' (found text c r g) yes'
