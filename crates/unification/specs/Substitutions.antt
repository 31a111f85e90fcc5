-- Substitutions as lists of bindings. Assumes nothing.
use Rattle.std.specs.Prelude.{cond, List, [], ◌∷◌, ℕ, eqb}
use Rattle.terms.specs.Terms.{Term, var, atom, pair}

-- the term t with s for the variable x
abbrev pub put : ℕ → Term → Term → Term
put x s (var y) = cond (eqb x y) s (var y)
put x s (atom a) = atom a
put x s (pair t u) = pair (put x s t) (put x s u)

-- bindings of a variable to a term, in the order in which they were made
abbrev pub Substitution : Type 0
Substitution = List (ℕ × Term)

-- the term with one binding after the other put in
abbrev pub apply : Substitution → Term → Term
apply [] t = t
apply (b ∷ σ) t = apply σ (put b.0 b.1 t)
