-- A stack of lists of goals, as one list. Assumes nothing.
use Rattle.std.specs.Prelude.{◌≡◌, List, [], ◌∷◌, ◌++◌}
use Rattle.terms.specs.Terms.{Term}

-- the goals of a stack, whose last item is its top: the top one's come first; Has says which goals an item has
abbrev pub Stacked : {X : Type 0} → (X → List Term → Type 0) → List X → List Term → Type 0
Stacked Has [] goals = goals ≡ []
Stacked Has (x ∷ xs) goals = (own : List Term) × (above : List Term) × Has x own × Stacked Has xs above × (goals ≡ above ++ own)
