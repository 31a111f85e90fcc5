-- The laws of unification. Assumes nothing.
use Rattle.std.proofs.Math.Option.{some}
use Rattle.std.specs.Prelude.{◌≡◌}
use Rattle.terms.specs.Terms.{Term}
use Rattle.unification.specs.Ground.{Replacement, replaced}
use Rattle.unification.specs.Substitutions.{Substitution, apply}
use Rattle.unification.specs.Unification.{robinson, unify}

-- what is found makes the two terms equal
abbrev pub Unifies : Type 0
Unifies = (s t : Term) (σ : Substitution) → unify s t ≡ some σ → apply σ s ≡ apply σ t

-- every replacement that makes the two terms equal is kept by what is found: applying it first changes nothing
abbrev pub MostGeneral : Type 0
MostGeneral =
    (γ : Replacement) (s t : Term) → replaced γ s ≡ replaced γ t
    → (σ : Substitution) × (unify s t ≡ some σ) × ((u : Term) → replaced γ (apply σ u) ≡ replaced γ u)

-- unification is its own recursion by the forms of the terms, without any bound
abbrev pub Recursive : Type 0
Recursive = (s t : Term) → unify s t ≡ robinson unify s t
