-- Each line of the search as an equation, by what holds at its place. Assumes nothing.
use Rattle.std.proofs.Common.{◌≡◌, ℕ, suc, ◌-◌, ◌<◌, ◌≤◌, Bool, cond, ltb, List, [], ◌∷◌, length, ap, ◌∙◌, arith}
use Rattle.std.proofs.lemmas.Bool.{le-leb, lt-leb}
use mathlib.Core.Option.{none, some}
use Rattle.terms.specs.Terms.{Term, Rule}
use Rattle.resolution.specs.declared.Stop.{Stop}
use Rattle.resolution.specs.declared.Stop.TheVariants.{Deep, Cells}
use Rattle.resolution.specs.declared.Word.TheVariants.{Spent, Answer, Stopped}
use Rattle.resolution.specs.Rules.{rule}
use Rattle.resolution.specs.Limits.{cell_limit, step_limit}
use Rattle.resolution.specs.Lines.{goes_on, tried, Place, ends, back, stop, unless_stopped, due_line, line_for, line}

module _ (rs : List Rule) (p : Place) where
  pub line_answer : (left : ℕ) → p.goals ≡ [] → line rs left p ≡ ends Answer
  line_answer left e = ap (line_for rs left p) e

  pub line_back : (left : ℕ) (g : Term) (rest : List Term) → p.goals ≡ g ∷ rest → length rs ≤ p.due → line rs left p ≡ back left p.branch
  line_back left g rest e h =
      ap (line_for rs left p) e ∙ ap (λ (b : Bool). cond b (due_line rs left p g rest) (back left p.branch)) (lt-leb (suc p.due) (length rs) (omega (arith, h)))

  line_due : (left : ℕ) (g : Term) (rest : List Term) → p.goals ≡ g ∷ rest → p.due < length rs → line rs left p ≡ due_line rs left p g rest
  line_due left g rest e h =
      ap (line_for rs left p) e ∙ ap (λ (b : Bool). cond b (due_line rs left p g rest) (back left p.branch)) (le-leb (suc p.due) (length rs) h)

  pub line_spent : (g : Term) (rest : List Term) → p.goals ≡ g ∷ rest → p.due < length rs → line rs 0 p ≡ ends Spent
  line_spent g rest e h = line_due 0 g rest e h

  pub line_stopped : (left : ℕ) (g : Term) (rest : List Term) (why : Stop) → p.goals ≡ g ∷ rest → p.due < length rs → stop rs p ≡ some why → line rs (suc left) p ≡ ends (Stopped why)
  line_stopped left g rest why e h k = line_due (suc left) g rest e h ∙ ap (unless_stopped rs left p g rest) k

  pub line_try : (left : ℕ) (g : Term) (rest : List Term) → p.goals ≡ g ∷ rest → p.due < length rs → stop rs p ≡ none → line rs (suc left) p ≡ goes_on left (tried rs p g rest)
  line_try left g rest e h k = line_due (suc left) g rest e h ∙ ap (unless_stopped rs left p g rest) k

  -- what stops a try
  pub stop_deep : step_limit ≤ length p.branch → stop rs p ≡ some Deep
  stop_deep h =
      ap (λ (b : Bool). cond b (some Deep) (cond (ltb (cell_limit - length p.cells) (rule rs p.due).variables) (some Cells) none)) (le-leb step_limit (length p.branch) h)

  not_deep : length p.branch < step_limit → stop rs p ≡ cond (ltb (cell_limit - length p.cells) (rule rs p.due).variables) (some Cells) none
  not_deep h =
      ap (λ (b : Bool). cond b (some Deep) (cond (ltb (cell_limit - length p.cells) (rule rs p.due).variables) (some Cells) none)) (lt-leb step_limit (length p.branch) h)

  pub stop_cells : length p.branch < step_limit → cell_limit - length p.cells < (rule rs p.due).variables → stop rs p ≡ some Cells
  stop_cells h k =
      not_deep h ∙ ap (λ (b : Bool). cond b (some Cells) none) (le-leb (suc (cell_limit - length p.cells)) (rule rs p.due).variables k)

  pub stop_none : length p.branch < step_limit → (rule rs p.due).variables ≤ cell_limit - length p.cells → stop rs p ≡ none
  stop_none h k =
      not_deep h ∙ ap (λ (b : Bool). cond b (some Cells) none) (lt-leb (suc (cell_limit - length p.cells)) (rule rs p.due).variables (omega (arith, k)))
