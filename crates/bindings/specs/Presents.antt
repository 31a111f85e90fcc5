-- The present terms of the cells in use, as the search defines them. Assumes nothing.
use Rattle.std.specs.Prelude.{ℕ, List, map}
use Rattle.terms.specs.Terms.{Term}
use Rattle.resolution.specs.Cells.{fresh}
use Rattle.bindings.specs.Meanings.{Trail, meaning}

-- the meanings of the first n cells
abbrev pub presents : Trail → ℕ → List Term
presents L n = map (meaning L) (fresh 0 n)
