-- What unification finds makes the two terms equal. Assumes nothing.
use mathlib.Core.Path.{◌≡◌, sym, ◌∙◌, ap, ap₂, subst}
use mathlib.Core.Bool.{true, cond}
use mathlib.Core.List.{[], ◌∷◌, ◌++◌}
use mathlib.Core.Option.{Option, none, some}
use Prim.Native.Nat.{ℕ, zero, suc, ◌+◌}
use lib.Dec.{T, eqb, eqb→eq}
use Rattle.terms.specs.Terms.{Term, var, atom, pair}
use Rattle.unification.specs.Variables.{is_variable, occurs, occurrences}
use Rattle.unification.specs.Substitutions.{Substitution, apply}
use Rattle.unification.specs.Unification.{Unifier, bind, meet, followed, rests_by, unify_by, unify_within, unify}
use Rattle.unification.specs.Laws.{Unifies}
use Rattle.unification.proofs.Choice.{cond_at}
use Rattle.unification.proofs.Substitutions.{put_same, put_absent, apply_pair, apply_append}

abbrev Joins : Term → Term → Option Substitution → Type 0
Joins s t none = Unit {0}
Joins s t (some σ) = apply σ s ≡ apply σ t

bind_left : (x : ℕ) (t : Term) → Joins (var x) t (bind x t)
bind_left x t = cond_at (Joins (var x) t) (occurs x t) (λ e. tt) (λ e. put_same x t ∙ sym (put_absent x t t e))

bind_right : (x : ℕ) (t : Term) → Joins t (var x) (bind x t)
bind_right x t = cond_at (Joins t (var x)) (occurs x t) (λ e. tt) (λ e. put_absent x t t e ∙ sym (put_same x t))

itself : (x : ℕ) (t : Term) → is_variable x t ≡ true → var x ≡ t
itself x (var y) e = ap var (eqb→eq x y (subst T (sym e) tt))
itself x (atom a) e = absurd (subst T (sym e) tt)
itself x (pair s t) e = absurd (subst T (sym e) tt)

meet_joins : (x : ℕ) (t : Term) → Joins (var x) t (meet x t)
meet_joins x t = cond_at (Joins (var x) t) (is_variable x t) (itself x t) (λ e. bind_left x t)

atoms_join : (a b : ℕ) → Joins (atom a) (atom b) (cond (eqb a b) (some []) none)
atoms_join a b = cond_at (Joins (atom a) (atom b)) (eqb a b) (λ e. ap atom (eqb→eq a b (subst T (sym e) tt))) (λ e. tt)

module _ (fewer : Unifier) (joins : (s t : Term) → Joins s t (fewer s t)) where
  followed_joins : (σ : Substitution) (a b c d : Term) → apply σ a ≡ apply σ c → (r : Option Substitution) → Joins (apply σ b) (apply σ d) r
      → Joins (pair a b) (pair c d) (followed σ r)
  followed_joins σ a b c d e none k = tt
  followed_joins σ a b c d e (some τ) k =
      apply_pair (σ ++ τ) a b
      ∙ ap₂ pair (apply_append σ τ a ∙ ap (apply τ) e ∙ sym (apply_append σ τ c)) (apply_append σ τ b ∙ k ∙ sym (apply_append σ τ d))
      ∙ sym (apply_pair (σ ++ τ) c d)

  pairs_join : (a b c d : Term) → a ≡ c → (r : Option Substitution) → Joins b d r → Joins (pair a b) (pair c d) r
  pairs_join a b c d e none k = tt
  pairs_join a b c d e (some σ) k = apply_pair σ a b ∙ ap₂ pair (ap (apply σ) e) k ∙ sym (apply_pair σ c d)

  rests_join : (a b c d : Term) (r : Option Substitution) → Joins a c r → (same : Term → Option Substitution) → Joins b d (same d)
      → Joins (pair a b) (pair c d) (rests_by fewer r same b d)
  rests_join a b c d none k same m = tt
  rests_join a b c d (some []) k same m = pairs_join a b c d k (same d) m
  rests_join a b c d (some (p ∷ σ)) k same m =
      followed_joins (p ∷ σ) a b c d k (fewer (apply (p ∷ σ) b) (apply (p ∷ σ) d)) (joins (apply (p ∷ σ) b) (apply (p ∷ σ) d))

  by_joins : (s t : Term) → Joins s t (unify_by fewer s t)
  by_joins (var x) t = meet_joins x t
  by_joins (atom a) (var y) = bind_right y (atom a)
  by_joins (atom a) (atom b) = atoms_join a b
  by_joins (atom a) (pair c d) = tt
  by_joins (pair a b) (var y) = bind_right y (pair a b)
  by_joins (pair a b) (atom c) = tt
  by_joins (pair a b) (pair c d) = rests_join a b c d (unify_by fewer a c) (by_joins a c) (unify_by fewer b) (by_joins b d)

within_joins : (n : ℕ) (s t : Term) → Joins s t (unify_within n s t)
within_joins zero s t = by_joins (λ s t. none) (λ s t. tt) s t
within_joins (suc n) s t = by_joins (unify_within n) (within_joins n) s t

pub unifies : Unifies
unfolding unify
unifies s t σ e = subst (Joins s t) e (within_joins (occurrences s + occurrences t) s t)
