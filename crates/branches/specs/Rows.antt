-- Terms that stand one after the other in a text. Assumes nothing.
use Rattle.std.specs.Prelude.{ℕ, zero, suc, List, [], ◌∷◌, length}
use Rattle.terms.specs.Terms.{Term}
use Rattle.bindings.specs.Texts.{read_within, tree, Stands, Declares}

-- the place after the term that is read at p
unfoldable pub after : List ℕ → ℕ → ℕ
after text p = (read_within (length text) text p).1

-- the n terms that are read from p on
abbrev pub row : List ℕ → ℕ → ℕ → List Term
row text p zero = []
row text p (suc n) = tree text p ∷ row text (after text p) n

-- n terms stand from p on, and their own variables are below v
abbrev pub Declared : List ℕ → ℕ → ℕ → ℕ → Type 0
Declared text v p zero = Unit {0}
Declared text v p (suc n) = Declares text v p × Declared text v (after text p) n

-- n terms stand from p on, and their variables from the cell l on are below m
abbrev pub Standing : List ℕ → ℕ → ℕ → ℕ → ℕ → Type 0
Standing text m p l zero = Unit {0}
Standing text m p l (suc n) = Stands text m p l × Standing text m (after text p) l n
