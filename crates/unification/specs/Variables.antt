-- The variables of a term: where they occur, their bound, their shift. Assumes nothing.
use Rattle.std.specs.Prelude.{Bool, true, false, cond, List, [], ◌∷◌, ℕ, ◌+◌, ◌<◌, eqb}
use Rattle.terms.specs.Terms.{Term, var, atom, pair}

-- the term is the variable x itself
abbrev pub is_variable : ℕ → Term → Bool
is_variable x (var y) = eqb x y
is_variable x (atom a) = false
is_variable x (pair s t) = false

-- the variable x occurs in the term
abbrev pub occurs : ℕ → Term → Bool
occurs x (var y) = eqb x y
occurs x (atom a) = false
occurs x (pair s t) = cond (occurs x s) true (occurs x t)

-- how many variables stand in the term, each counted as often as it stands there
abbrev pub occurrences : Term → ℕ
occurrences (var x) = 1
occurrences (atom a) = 0
occurrences (pair s t) = occurrences s + occurrences t

-- each variable of the term is below n
abbrev pub Within : ℕ → Term → Type 0
Within n (var x) = x < n
Within n (atom a) = Unit {0}
Within n (pair s t) = Within n s × Within n t

abbrev pub AllWithin : ℕ → List Term → Type 0
AllWithin n [] = Unit {0}
AllWithin n (t ∷ ts) = Within n t × AllWithin n ts

-- the term with n added to the number of each variable
abbrev pub shifted : ℕ → Term → Term
shifted n (var x) = var (n + x)
shifted n (atom a) = atom a
shifted n (pair s t) = pair (shifted n s) (shifted n t)
