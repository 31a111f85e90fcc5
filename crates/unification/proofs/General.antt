-- Two terms that a replacement makes equal are unified, and the replacement keeps what is found. Assumes nothing.
use mathlib.Core.Path.{◌≡◌, refl, sym, ◌∙◌, ap, subst}
use mathlib.Core.Bool.{true, cond}
use mathlib.Core.List.{List, [], ◌∷◌}
use mathlib.Core.Option.{Option, none, some}
use Prim.Native.Nat.{ℕ, zero, suc, ◌+◌, ◌≤◌, ◌<◌}
use native.Mathlib.Omega.{arith}
use lib.Dec.{T, eqb, eqb_refl}
use lib.ListN.{length}
use Rattle.terms.specs.Terms.{Term, var, atom, pair}
use Rattle.unification.specs.Variables.{occurs, occurrences}
use Rattle.unification.specs.Ground.{ground_atom, Replacement, replaced}
use Rattle.unification.specs.Substitutions.{Substitution, apply}
use Rattle.unification.specs.Unification.{Unifier, bind, meet, followed, rests_by, unify_by, unify_within, unify}
use Rattle.unification.specs.Laws.{MostGeneral}
use Rattle.unification.proofs.Choice.{T→true, cond_at}
use Rattle.unification.proofs.Substitutions.{apply_append}
use Rattle.unification.proofs.Ground.{pair_first, pair_rest, atom_number, pair≢atom, no_cycle, replaced_put}
use Rattle.unification.proofs.Shrinks.{Over, Shrinks, AllShrink, by_shrinks, within_shrinks, variables, variables_count, over_variables}

abbrev Keeps : Replacement → Substitution → Type 0
Keeps γ σ = (t : Term) → replaced γ (apply σ t) ≡ replaced γ t

abbrev Kept : Replacement → Option Substitution → Type 0
Kept γ none = ⊥
Kept γ (some σ) = Keeps γ σ

module _ (γ : Replacement) where
  bind_kept : (x : ℕ) (t : Term) → γ x ≡ replaced γ t → (occurs x t ≡ true → ⊥) → Kept γ (bind x t)
  bind_kept x t h f = cond_at (Kept γ) (occurs x t) f (λ e. replaced_put γ x t h)

  meet_kept : (x : ℕ) (t : Term) → γ x ≡ replaced γ t → Kept γ (meet x t)
  meet_kept x (var y) h = cond_at (Kept γ) (eqb x y) (λ e t. refl) (λ e. bind_kept x (var y) h (λ k. subst T (sym k ∙ e) tt))
  meet_kept x (atom a) h = replaced_put γ x (atom a) h
  meet_kept x (pair s t) h = bind_kept x (pair s t) h (λ k. no_cycle γ x s t k h)

  atoms_kept : (a b : ℕ) → ground_atom a ≡ ground_atom b → Kept γ (cond (eqb a b) (some []) none)
  atoms_kept a b h =
      cond_at (Kept γ) (eqb a b) (λ e t. refl)
      (λ e. subst T (sym (T→true (eqb a b) (subst (λ (z : ℕ). T (eqb a z)) (atom_number h) (eqb_refl a))) ∙ e) tt)

  followed_kept : (σ : Substitution) → Keeps γ σ → (r : Option Substitution) → Kept γ r → Kept γ (followed σ r)
  followed_kept σ f none k = k
  followed_kept σ f (some τ) k = λ t. ap (replaced γ) (apply_append σ τ t) ∙ k (apply σ t) ∙ f t

  -- the unifier finds what γ keeps, for terms over a list
  abbrev Finds : Unifier → List ℕ → Type 0
  Finds f L = (s t : Term) → Over L s → Over L t → replaced γ s ≡ replaced γ t → Kept γ (f s t)

  module _ (fewer : Unifier) (shrinks : AllShrink fewer) (L : List ℕ) (finds : (M : List ℕ) → length M < length L → Finds fewer M) where
    rests_kept : (b d : Term) (r : Option Substitution) → Kept γ r → Shrinks L r → (same : Term → Option Substitution) → Kept γ (same d)
        → Over L b → Over L d → replaced γ b ≡ replaced γ d → Kept γ (rests_by fewer r same b d)
    rests_kept b d none k s same m ob od e = absurd k
    rests_kept b d (some []) k s same m ob od e = m
    rests_kept b d (some (p ∷ σ)) k s same m ob od e =
        followed_kept (p ∷ σ) k (fewer (apply (p ∷ σ) b) (apply (p ∷ σ) d))
        (finds s.left (omega (arith, s.less)) (apply (p ∷ σ) b) (apply (p ∷ σ) d) (s.over b ob) (s.over d od) (k b ∙ e ∙ sym (k d)))

    by_kept : Finds (unify_by fewer) L
    by_kept (var x) t o q e = meet_kept x t e
    by_kept (atom a) (var y) o q e = replaced_put γ y (atom a) (sym e)
    by_kept (atom a) (atom b) o q e = atoms_kept a b e
    by_kept (atom a) (pair c d) o q e = pair≢atom (sym e)
    by_kept (pair a b) (var y) o q e = bind_kept y (pair a b) (sym e) (λ k. no_cycle γ y a b k (sym e))
    by_kept (pair a b) (atom c) o q e = pair≢atom e
    by_kept (pair a b) (pair c d) o q e =
        rests_kept b d (unify_by fewer a c) (by_kept a c o.0 q.0 (pair_first e)) (by_shrinks fewer shrinks L a c o.0 q.0)
        (unify_by fewer b) (by_kept b d o.1 q.1 (pair_rest e)) o.1 q.1 (pair_rest e)

  within_kept : (n : ℕ) (L : List ℕ) → length L ≤ n → Finds (unify_within n) L
  within_kept zero L l s t o q e = by_kept (λ s t. none) (λ L s t o q. tt) L (λ M k s t o q e. omega (arith, k, l)) s t o q e
  within_kept (suc n) L l s t o q e = by_kept (unify_within n) (within_shrinks n) L (λ M k. within_kept n M (omega (arith, k, l))) s t o q e

found : (γ : Replacement) (r : Option Substitution) → Kept γ r → (σ : Substitution) × (r ≡ some σ) × Keeps γ σ
found γ none k = absurd k
found γ (some σ) k = (σ, refl, k)

pub most_general : MostGeneral
unfolding unify
most_general γ s t e =
    found γ (unify_within (occurrences s + occurrences t) s t)
    (within_kept γ (occurrences s + occurrences t) (variables (pair s t)) (omega (arith, variables_count (pair s t))) s t
    (over_variables (pair s t)).0 (over_variables (pair s t)).1 e)
