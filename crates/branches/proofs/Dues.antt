-- What is due at a place, by what stands in the tables. Assumes nothing.
use Rattle.std.proofs.Common.{◌≡◌, ℕ, zero, suc, ◌-◌, ◌<◌, ◌≤◌, Bool, cond, List, [], ◌∷◌, ◌++◌, map, length, refl, ap, ◌∙◌, ap₂, arith, le-ltb, lt-ltb, Option as Maybe}
use mathlib.Core.Option.{Option, none, some}
use lib.ListN.{length-map}
use Rattle.terms.specs.Terms.{Term, Rule}
use Rattle.unification.specs.Variables.{shifted}
use Rattle.unification.specs.Unification.{unify}
use Rattle.resolution.specs.declared.Stop.{Stop as Why}
use Rattle.resolution.specs.declared.Stop.TheVariants.{Deep, Cells}
use Rattle.resolution.specs.Rules.{rule}
use Rattle.resolution.specs.Lines.{stop, landed}
use Rattle.resolution.proofs.Turns.{stop_deep, stop_cells, stop_none}
use Rattle.bindings.specs.Cells.{Cell}
use Rattle.bindings.specs.Meanings.{meaning}
use Rattle.bindings.specs.Texts.{tree, term}
use Rattle.bindings.specs.Trails.{trail}
use Rattle.bindings.specs.Checks.{undone}
use Rattle.bindings.proofs.Presents.{presents_length}
use Rattle.branches.specs.declared.Step.{Step}
use Rattle.branches.specs.declared.Clause.{Clause}
use Rattle.branches.specs.declared.Due.{Due}
use Rattle.branches.specs.declared.Due.TheVariants.{Nothing, NoRule, Stop, Rule as ARule}
use Rattle.branches.specs.Rows.{row}
use Rattle.branches.specs.Clauses.{clause, rule_at, rules_at}
use Rattle.branches.specs.Branches.{later, behind, remaining, At, branch, place, InOrder}
use Rattle.branches.specs.Moves.{due_unless, due_for, due_at, attempted_if, attempted}
use Rattle.branches.proofs.Remaining.{remaining_first}

pub branch_length : (text : List ℕ) (ss : List Step) (cells : List Cell) (h : ℕ) → length (branch text ss cells h) ≡ length ss
unfolding branch
branch_length text [] cells h = refl
branch_length text (s ∷ ss) cells h = ap suc (branch_length text ss (undone cells h s.mark) s.mark)

-- The rule of a number is that of the clause.
pub rule_is : (text : List ℕ) (cs : List Clause) (i : ℕ) → i < length cs → rule (rules_at text cs) i ≡ rule_at text (clause cs i)
rule_is text [] i l = absurd (omega (arith, l))
rule_is text (c ∷ cs) zero l = refl
rule_is text (c ∷ cs) (suc i) l = rule_is text cs i (omega (arith, l))

pub rules_length : (text : List ℕ) (cs : List Clause) → length (rules_at text cs) ≡ length cs
rules_length text cs = length-map cs (rule_at text)

module _ (text : List ℕ) (cs : List Clause) (v : ℕ) (a : At) (order : InOrder text cs v a) where
  -- the first goal, and those behind it, in present terms
  abbrev pub first_goal : Term
  first_goal = meaning (trail text a.cells a.newest) (term text a.goals.place a.goals.level)

  abbrev pub other_goals : List Term
  other_goals = map (meaning (trail text a.cells a.newest)) (later (remaining text a.steps a.goals))

  no_goals : a.goals.left ≡ 0 → (place text a).goals ≡ []
  unfolding behind
  no_goals e =
      ap (map (meaning (trail text a.cells a.newest)))
      (ap₂ (λ (n : ℕ) (k : Maybe ℕ). map (shifted a.goals.level) (row text a.goals.place n) ++ behind text a.steps k) e (order.bare e))

  pub goals_are : 1 ≤ a.goals.left → (place text a).goals ≡ first_goal ∷ other_goals
  goals_are l = by a.goals.left refl l
    where
      by : (n : ℕ) → a.goals.left ≡ n → 1 ≤ n → (place text a).goals ≡ first_goal ∷ other_goals
      by zero e l = absurd (omega (arith, l))
      by (suc n) e l = ap (map (meaning (trail text a.cells a.newest))) (remaining_first text a.steps a.goals n e)

  pub due_nothing : a.goals.left ≡ 0 → due_at (rules_at text cs) (place text a) ≡ Nothing
  due_nothing e = ap (due_for (rules_at text cs) (place text a)) (no_goals e)

  pub due_no_rule : 1 ≤ a.goals.left → length cs ≤ a.due → due_at (rules_at text cs) (place text a) ≡ NoRule
  due_no_rule l h =
      ap (due_for (rules_at text cs) (place text a)) (goals_are l)
      ∙ ap (λ (b : Bool). cond b (due_unless (stop (rules_at text cs) (place text a))) NoRule) (le-ltb a.due (length (rules_at text cs)) (omega (arith, h, rules_length text cs)))

  due_by : (o : Option Why) → 1 ≤ a.goals.left → a.due < length cs → stop (rules_at text cs) (place text a) ≡ o → due_at (rules_at text cs) (place text a) ≡ due_unless o
  due_by o l h e =
      ap (due_for (rules_at text cs) (place text a)) (goals_are l)
      ∙ ap (λ (b : Bool). cond b (due_unless (stop (rules_at text cs) (place text a))) NoRule) (lt-ltb a.due (length (rules_at text cs)) (omega (arith, h, rules_length text cs)))
      ∙ ap due_unless e

  pub due_deep : 1 ≤ a.goals.left → a.due < length cs → 512 ≤ length a.steps → due_at (rules_at text cs) (place text a) ≡ Stop Deep
  due_deep l h d =
      due_by (some Deep) l h (stop_deep (rules_at text cs) (place text a) (omega (arith, d, branch_length text a.steps a.cells a.newest)))

  pub due_cells : 1 ≤ a.goals.left → a.due < length cs → length a.steps < 512 → 2048 - a.used < (clause cs a.due).variables
      → due_at (rules_at text cs) (place text a) ≡ Stop Cells
  due_cells l h d k =
      let n = presents_length (trail text a.cells a.newest) a.used in
      let r = ap (λ (x : Rule). x.variables) (rule_is text cs a.due h) in
      due_by (some Cells) l h (stop_cells (rules_at text cs) (place text a) (omega (arith, d, branch_length text a.steps a.cells a.newest)) (omega (arith, k, n, r)))

  pub due_rule : 1 ≤ a.goals.left → a.due < length cs → length a.steps < 512 → (clause cs a.due).variables ≤ 2048 - a.used
      → due_at (rules_at text cs) (place text a) ≡ ARule
  due_rule l h d k =
      let n = presents_length (trail text a.cells a.newest) a.used in
      let r = ap (λ (x : Rule). x.variables) (rule_is text cs a.due h) in
      due_by none l h (stop_none (rules_at text cs) (place text a) (omega (arith, d, branch_length text a.steps a.cells a.newest)) (omega (arith, k, n, r)))

  -- A try where one can be made.
  pub attempted_is : 1 ≤ a.goals.left → a.due < length cs → due_at (rules_at text cs) (place text a) ≡ ARule
      → attempted (rules_at text cs) (place text a)
      ≡ landed (place text a) (rule_at text (clause cs a.due)) first_goal other_goals (unify (shifted a.used (tree text (clause cs a.due).head)) first_goal)
  attempted_is l h d =
      ap₂ (λ (x : Due) (gs : List Term). attempted_if (rules_at text cs) (place text a) x gs) d (goals_are l)
      ∙ ap (λ (r : Rule). landed (place text a) r first_goal other_goals (unify (shifted (length (place text a).cells) r.head) first_goal)) (rule_is text cs a.due h)
      ∙ ap (λ (n : ℕ). landed (place text a) (rule_at text (clause cs a.due)) first_goal other_goals (unify (shifted n (tree text (clause cs a.due).head)) first_goal))
      (presents_length (trail text a.cells a.newest) a.used)

  -- A try that fails leaves all but the rule due.
  pub failed_place : (r : Rule) → 1 ≤ a.goals.left
      → place text (record { steps = a.steps; cells = a.cells; newest = a.newest; used = a.used; goals = a.goals; due = suc a.due })
      ≡ landed (place text a) r first_goal other_goals none
  failed_place r l =
      ap (λ (ts : List Term). record { goals = ts; due = suc a.due; cells = (place text a).cells; branch = (place text a).branch }) (goals_are l)

  pub failed_in_order : InOrder text cs v (record { steps = a.steps; cells = a.cells; newest = a.newest; used = a.used; goals = a.goals; due = suc a.due })
  failed_in_order = record { sound = order.sound; kept = order.kept; row = order.row; bare = order.bare }
