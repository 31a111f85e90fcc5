-- The lines of the search in their order, and one after the other. Assumes nothing.
use Rattle.std.specs.Prelude.{ℕ, zero, suc, ◌+◌, ◌-◌, ◌*◌, cond, List, [], ◌∷◌, ◌++◌, map, length, nat_le, nat_lt}
use Rattle.std.proofs.Math.Option.{Option, none, some}
use Rattle.terms.specs.Terms.{Term, Rule}
use Rattle.unification.specs.Variables.{shifted}
use Rattle.unification.specs.Substitutions.{Substitution, apply}
use Rattle.unification.specs.Unification.{unify}
use Rattle.resolution.specs.declared.Stop.{Stop}
use Rattle.resolution.specs.declared.Stop.TheVariants.{Deep, Cells}
use Rattle.resolution.specs.declared.Word.{Word}
use Rattle.resolution.specs.declared.Word.TheVariants.{Answer, Spent, Stopped, NoMore}
use Rattle.resolution.specs.Rules.{rule}
use Rattle.resolution.specs.Cells.{fresh}
use Rattle.resolution.specs.Limits.{cell_limit, step_limit}

-- a step: the number of the rule taken, the goal it was tried on, the goals after that one, and the cells before it
pub record Step : Type 0 where
  pub rule : ℕ
  pub goal : Term
  pub rest : List Term
  pub cells : List Term

-- a place on the way: the goals that remain, leftmost first; the rule due for the first of them; the present term
-- of each cell in use; the branch of steps, newest first
pub record Place : Type 0 where
  pub goals : List Term
  pub due : ℕ
  pub cells : List Term
  pub branch : List Step

-- the rule numbers of a branch, oldest step first
abbrev pub rules_taken : List Step → List ℕ
rules_taken [] = []
rules_taken (f ∷ fs) = rules_taken fs ++ (f.rule ∷ [])

-- what a line comes to: the call ends with a word, or goes on from a place with so many tries left
pub data Turn : Type 0 where
  ends : Word → Turn
  goes_on : ℕ → Place → Turn

-- the goal of a step is first again, from the rule after; its cells and bindings are gone
abbrev pub before : Step → List Step → Place
before f fs = record { goals = f.goal ∷ f.rest; due = suc f.rule; cells = f.cells; branch = fs }

-- going back takes off the newest step; without one the search has ended
abbrev pub back : ℕ → List Step → Turn
back left [] = ends NoMore
back left (f ∷ fs) = goes_on left (before f fs)

-- why no try can be made here, if so: too many steps, then too few cells
abbrev pub stop : List Rule → Place → Option Stop
stop rs p =
    let few : Option Stop = cond (nat_lt (cell_limit - length p.cells) (rule rs p.due).variables) (some Cells) none in
    cond (nat_le step_limit (length p.branch)) (some Deep) few

-- the place after a try of the rule r on the goal g: on failure the next rule is due, on success the rule is the newest
-- step, its goals stand before those that remain, and what was found is put in everywhere
abbrev pub landed : Place → Rule → Term → List Term → Option Substitution → Place
landed p r g rest none = record { goals = g ∷ rest; due = suc p.due; cells = p.cells; branch = p.branch }
landed p r g rest (some σ) =
    record {
      goals = map (apply σ) (map (shifted (length p.cells)) r.goals ++ rest);
      due = 0;
      cells = map (apply σ) (p.cells ++ fresh (length p.cells) r.variables);
      branch = record { rule = p.due; goal = g; rest = rest; cells = p.cells } ∷ p.branch;
    }

-- a try takes fresh cells for the rule's variables and unifies its head with the goal
abbrev pub tried : List Rule → Place → Term → List Term → Place
tried rs p g rest = landed p (rule rs p.due) g rest (unify (shifted (length p.cells) (rule rs p.due).head) g)

abbrev pub unless_stopped : List Rule → ℕ → Place → Term → List Term → Option Stop → Turn
unless_stopped rs left p g rest (some why) = ends (Stopped why)
unless_stopped rs left p g rest none = goes_on left (tried rs p g rest)

-- a rule is due for the goal g: spent, stopped, or tried
abbrev pub due_line : List Rule → ℕ → Place → Term → List Term → Turn
due_line rs zero p g rest = ends Spent
due_line rs (suc left) p g rest = unless_stopped rs left p g rest (stop rs p)

-- no goal remains: answer; no rule is left for the first goal: back; otherwise that rule is due
abbrev pub line_for : List Rule → ℕ → Place → List Term → Turn
line_for rs left p [] = ends Answer
line_for rs left p (g ∷ rest) =
    let taken : Turn = due_line rs left p g rest in
    let gone : Turn = back left p.branch in
    cond (nat_lt p.due (length rs)) taken gone

-- the first line that applies, with so many tries left
abbrev pub line : List Rule → ℕ → Place → Turn
line rs left p = line_for rs left p p.goals

-- how a call ends: its word, the tries it did not make, and the place
pub record End : Type 0 where
  pub word : Word
  pub left : ℕ
  pub place : Place

-- a turn, and then what comes of going on
abbrev pub onward : (ℕ → Place → End) → ℕ → Place → Turn → End
onward go left p (ends w) = record { word = w; left = left; place = p }
onward go left p (goes_on l p') = go l p'

-- at most n lines
abbrev pub lines_within : List Rule → ℕ → ℕ → Place → End
lines_within rs zero left p = record { word = Spent; left = left; place = p }
lines_within rs (suc n) left p = onward (lines_within rs n) left p (line rs left p)

-- more lines than these cannot be taken: each try uses one of those left and adds at most a step to go back
abbrev pub enough : ℕ → Place → ℕ
enough left p = suc (2 * left + length p.branch)

-- one line after the other until one ends the call
unfoldable pub lines : List Rule → ℕ → Place → End
lines rs left p = lines_within rs (enough left p) left p
