-- Putting a term for a variable, and applying a substitution. Assumes nothing.
use mathlib.Core.Path.{◌≡◌, refl, ap, ap₂, subst}
use mathlib.Core.Bool.{Bool, true, false, cond}
use mathlib.Core.List.{[], ◌∷◌, ◌++◌}
use Prim.Native.Nat.{ℕ}
use lib.Dec.{T, eqb, eqb_refl}
use Rattle.terms.specs.Terms.{Term, var, atom, pair}
use Rattle.unification.specs.Variables.{occurs}
use Rattle.unification.specs.Substitutions.{put, Substitution, apply}
use Rattle.unification.proofs.Choice.{T→true}

pub put_same : (x : ℕ) (s : Term) → put x s (var x) ≡ s
put_same x s = ap (λ (b : Bool). cond b s (var x)) (T→true (eqb x x) (eqb_refl x))

put_pair : (x : ℕ) (s t u : Term) (b : Bool) → occurs x t ≡ b → cond b true (occurs x u) ≡ false
    → (occurs x t ≡ false → put x s t ≡ t) → (occurs x u ≡ false → put x s u ≡ u) → put x s (pair t u) ≡ pair t u
put_pair x s t u true e k f g = absurd (subst T k tt)
put_pair x s t u false e k f g = ap₂ pair (f e) (g k)

-- a term in which the variable does not occur stays as it is
pub put_absent : (x : ℕ) (s t : Term) → occurs x t ≡ false → put x s t ≡ t
put_absent x s (var y) h = ap (λ (b : Bool). cond b s (var y)) h
put_absent x s (atom a) h = refl
put_absent x s (pair t u) h = put_pair x s t u (occurs x t) refl h (put_absent x s t) (put_absent x s u)

pub apply_atom : (σ : Substitution) (a : ℕ) → apply σ (atom a) ≡ atom a
apply_atom [] a = refl
apply_atom (b ∷ σ) a = apply_atom σ a

pub apply_pair : (σ : Substitution) (s t : Term) → apply σ (pair s t) ≡ pair (apply σ s) (apply σ t)
apply_pair [] s t = refl
apply_pair (b ∷ σ) s t = apply_pair σ (put b.0 b.1 s) (put b.0 b.1 t)

pub apply_append : (σ τ : Substitution) (t : Term) → apply (σ ++ τ) t ≡ apply τ (apply σ t)
apply_append [] τ t = refl
apply_append (b ∷ σ) τ t = apply_append σ τ (put b.0 b.1 t)
