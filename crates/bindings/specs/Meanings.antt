-- What a term means under a trail of bindings. Assumes nothing.
use Rattle.std.specs.Prelude.{◌≡◌, ℕ, zero, suc, ◌+◌, ◌*◌, ◌≤◌, false, cond, ◌⊎◌, List, [], ◌∷◌, ◌==◌}
use Rattle.terms.specs.Terms.{Term, var, atom, pair}
use Rattle.unification.specs.Variables.{is_variable, occurs}
use Rattle.unification.specs.Substitutions.{put}

-- bindings of a variable to a term, the newest first
abbrev pub Trail : Type 0
Trail = List (ℕ × Term)

-- each binding is put in after the older ones, in the term and in what it binds
abbrev pub meaning : Trail → Term → Term
meaning [] t = t
meaning (b ∷ older) t = put b.0 (meaning older b.1) (meaning older t)

-- nothing is bound to the variable
abbrev pub Unbound : ℕ → Trail → Type 0
Unbound x [] = Unit {0}
Unbound x (b ∷ older) = ((b.0 == x) ≡ false) × Unbound x older

-- the term is bound to the variable
abbrev pub Binds : ℕ → Term → Trail → Type 0
Binds x t [] = ⊥
Binds x t (b ∷ older) = ((b.0 ≡ x) × (b.1 ≡ t)) ⊎ Binds x t older

-- each binding is of a variable without one, to a term in which it does not occur
abbrev pub Acyclic : Trail → Type 0
Acyclic [] = Unit {0}
Acyclic (b ∷ older) = Unbound b.0 older × (occurs b.0 (meaning older b.1) ≡ false) × Acyclic older

-- how many variables, atoms and pairs a term has
abbrev pub size : Term → ℕ
size (var x) = 1
size (atom a) = 1
size (pair s t) = suc (size s + size t)

-- how many bindings are looked up before the term shows its form
unfoldable pub lookups : Trail → Term → ℕ
lookups [] t = 0
lookups (b ∷ older) t = lookups older t + cond (is_variable b.0 (meaning older t)) (suc (lookups older b.1)) 0

-- how large a meaning can be after k bindings of terms no larger than n
unfoldable pub growth : ℕ → ℕ → ℕ
growth n zero = n
growth n (suc k) = growth n k * growth n k

-- each bound term is no larger than n
abbrev pub AllSized : ℕ → Trail → Type 0
AllSized n [] = Unit {0}
AllSized n (b ∷ older) = (size b.1 ≤ n) × AllSized n older
