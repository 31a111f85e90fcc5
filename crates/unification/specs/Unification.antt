-- Robinson's unification with the occurs check. Assumes nothing.
use Rattle.std.specs.Prelude.{cond, [], ◌∷◌, ◌++◌, ℕ, zero, suc, ◌+◌, eqb}
use Rattle.std.proofs.Math.Option.{Option, none, some}
use Rattle.terms.specs.Terms.{Term, var, atom, pair}
use Rattle.unification.specs.Variables.{is_variable, occurs, occurrences}
use Rattle.unification.specs.Substitutions.{Substitution, apply}

-- what unification of two terms finds: none, or the bindings that it makes
abbrev pub Unifier : Type 0
Unifier = Term → Term → Option Substitution

-- the variable x takes the term t, unless it occurs in it
abbrev pub bind : ℕ → Term → Option Substitution
bind x t = cond (occurs x t) none (some ((x, t) ∷ []))

-- a variable meets itself freely, and takes any other term
abbrev pub meet : ℕ → Term → Option Substitution
meet x t = cond (is_variable x t) (some []) (bind x t)

-- the bindings of σ and then those found after it
abbrev pub followed : Substitution → Option Substitution → Option Substitution
followed σ none = none
followed σ (some τ) = some (σ ++ τ)

-- the rests b and d of two pairs under what their first parts gave
abbrev pub rests : Unifier → Option Substitution → Term → Term → Option Substitution
rests unifier none b d = none
rests unifier (some σ) b d = followed σ (unifier (apply σ b) (apply σ d))

-- one level of unification, by the forms of the two terms; parts are left to the unifier given
abbrev pub robinson : Unifier → Unifier
robinson unifier (var x) t = meet x t
robinson unifier (atom a) (var y) = bind y (atom a)
robinson unifier (atom a) (atom b) = cond (eqb a b) (some []) none
robinson unifier (atom a) (pair c d) = none
robinson unifier (pair a b) (var y) = bind y (pair a b)
robinson unifier (pair a b) (atom c) = none
robinson unifier (pair a b) (pair c d) = rests unifier (unifier a c) b d

-- the rests where the first parts made no binding are as they were, so `same` goes on with them;
-- where they made one, a variable is gone, and `fewer` goes on
abbrev pub rests_by : Unifier → Option Substitution → (Term → Option Substitution) → Term → Term → Option Substitution
rests_by fewer none same b d = none
rests_by fewer (some []) same b d = same d
rests_by fewer (some (p ∷ σ)) same b d = rests fewer (some (p ∷ σ)) b d

-- unification by recursion on the terms, with the unifier `fewer` once a variable is gone
abbrev pub unify_by : Unifier → Unifier
unify_by fewer (var x) t = meet x t
unify_by fewer (atom a) (var y) = bind y (atom a)
unify_by fewer (atom a) (atom b) = cond (eqb a b) (some []) none
unify_by fewer (atom a) (pair c d) = none
unify_by fewer (pair a b) (var y) = bind y (pair a b)
unify_by fewer (pair a b) (atom c) = none
unify_by fewer (pair a b) (pair c d) = rests_by fewer (unify_by fewer a c) (unify_by fewer b) b d

-- unification of terms that have at most n variables
abbrev pub unify_within : ℕ → Unifier
unify_within zero = unify_by (λ s t. none)
unify_within (suc n) = unify_by (unify_within n)

-- unification of a head and a goal: a variable of the left term is bound before one of the right
unfoldable pub unify : Unifier
unify s t = unify_within (occurrences s + occurrences t) s t
