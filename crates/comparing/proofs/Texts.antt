-- Two cursors, from turn to turn of a comparison. Assumes nothing.
use Rattle.std.proofs.Common.{ℕ, List, ◌∷◌}
use Rattle.terms.specs.Terms.{Term}
use Rattle.comparing.specs.declared.Cursor.{Cursor}
use Rattle.comparing.specs.Comparisons.{Comparing}
use Rattle.comparing.specs.Texts.{Sources, Comes}

-- whatever terms were to come at the cursors, they are the same exactly where those are that are due now
abbrev pub Goes_on : Sources → List ℕ → Cursor → Cursor → Cursor → Cursor → ℕ → Type 0
Goes_on s table one other one2 other2 due =
    (x : Term) (xs : List Term) (y : Term) (ys : List Term) → Comes s table one (x ∷ xs) → Comes s table other (y ∷ ys)
    → Comparing x xs y ys (Comes s table one2) (Comes s table other2) due
