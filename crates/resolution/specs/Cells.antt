-- The present terms of cells. Assumes nothing.
use Rattle.std.specs.Prelude.{ℕ, zero, suc, List, [], ◌∷◌, slice_index_or}
use Rattle.terms.specs.Terms.{Term, var, atom, pair}

-- the terms of k fresh cells from the number n on: each is its own variable
abbrev pub fresh : ℕ → ℕ → List Term
fresh n zero = []
fresh n (suc k) = var n ∷ fresh (suc n) k

-- the present term of the cell with the number k
abbrev pub cell : List Term → ℕ → Term
cell cells k = slice_index_or cells k (atom 0)

-- a term with the present terms of its cells
abbrev pub present : List Term → Term → Term
present cells (var k) = cell cells k
present cells (atom a) = atom a
present cells (pair s t) = pair (present cells s) (present cells t)
