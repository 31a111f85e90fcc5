-- What unification finds keeps every property that a pair has exactly where its parts have it. Assumes nothing.
use mathlib.Core.Path.{◌≡◌, sym, subst}
use mathlib.Core.List.{[], ◌∷◌}
use mathlib.Core.Option.{Option, none, some}
use Prim.Native.Nat.{ℕ, zero, suc, ◌+◌}
use lib.Dec.{eqb}
use Rattle.terms.specs.Terms.{Term, var, atom, pair}
use Rattle.unification.specs.Variables.{is_variable, occurs, occurrences, Within}
use Rattle.unification.specs.Substitutions.{put, Substitution, apply}
use Rattle.unification.specs.Unification.{Unifier, bind, meet, followed, rests_by, unify_by, unify_within, unify}
use Rattle.unification.proofs.Choice.{cond_at}
use Rattle.unification.proofs.Substitutions.{apply_append}

abbrev pub Keeps : (Term → Type 0) → Substitution → Type 0
Keeps P σ = (t : Term) → P t → P (apply σ t)

module _ (P : Term → Type 0) (joined : (s t : Term) → P s → P t → P (pair s t)) (parts : (s t : Term) → P (pair s t) → P s × P t) where
  abbrev Kept : Option Substitution → Type 0
  Kept none = Unit {0}
  Kept (some σ) = Keeps P σ

  put_kept : (x : ℕ) (s : Term) → P s → (t : Term) → P t → P (put x s t)
  put_kept x s b (var y) c = cond_at P (eqb x y) (λ e. b) (λ e. c)
  put_kept x s b (atom a) c = c
  put_kept x s b (pair t u) c = let both = parts t u c in joined (put x s t) (put x s u) (put_kept x s b t both.0) (put_kept x s b u both.1)

  bind_kept : (x : ℕ) (t : Term) → P t → Kept (bind x t)
  bind_kept x t h = cond_at Kept (occurs x t) (λ e. tt) (λ e. put_kept x t h)

  meet_kept : (x : ℕ) (t : Term) → P t → Kept (meet x t)
  meet_kept x t h = cond_at Kept (is_variable x t) (λ e t b. b) (λ e. bind_kept x t h)

  followed_kept : (σ : Substitution) (r : Option Substitution) → Keeps P σ → Kept r → Kept (followed σ r)
  followed_kept σ none h k = tt
  followed_kept σ (some τ) h k = λ t b. subst P (sym (apply_append σ τ t)) (k (apply σ t) (h t b))

  module _ (fewer : Unifier) (kept : (s t : Term) → P s → P t → Kept (fewer s t)) where
    rests_kept : (b d : Term) (r : Option Substitution) → Kept r → (same : Term → Option Substitution) → Kept (same d) → P b → P d
        → Kept (rests_by fewer r same b d)
    rests_kept b d none k same m p q = tt
    rests_kept b d (some []) k same m p q = m
    rests_kept b d (some (x ∷ σ)) k same m p q =
        followed_kept (x ∷ σ) (fewer (apply (x ∷ σ) b) (apply (x ∷ σ) d)) k (kept (apply (x ∷ σ) b) (apply (x ∷ σ) d) (k b p) (k d q))

    by_kept : (s t : Term) → P s → P t → Kept (unify_by fewer s t)
    by_kept (var x) t p q = meet_kept x t q
    by_kept (atom a) (var y) p q = put_kept y (atom a) p
    by_kept (atom a) (atom b) p q = cond_at Kept (eqb a b) (λ e t b. b) (λ e. tt)
    by_kept (atom a) (pair c d) p q = tt
    by_kept (pair a b) (var y) p q = bind_kept y (pair a b) p
    by_kept (pair a b) (atom c) p q = tt
    by_kept (pair a b) (pair c d) p q =
        let l = parts a b p in
        let r = parts c d q in
        rests_kept b d (unify_by fewer a c) (by_kept a c l.0 r.0) (unify_by fewer b) (by_kept b d l.1 r.1) l.1 r.1

  within_kept : (k : ℕ) (s t : Term) → P s → P t → Kept (unify_within k s t)
  within_kept zero s t p q = by_kept (λ s t. none) (λ s t p q. tt) s t p q
  within_kept (suc k) s t p q = by_kept (unify_within k) (within_kept k) s t p q

  pub unify_keeps : (s t : Term) (σ : Substitution) → unify s t ≡ some σ → P s → P t → Keeps P σ
  unfolding unify
  unify_keeps s t σ e p q = subst Kept e (within_kept (occurrences s + occurrences t) s t p q)

-- it names no variable at or above a bound of the two terms
abbrev pub KeepsWithin : ℕ → Substitution → Type 0
KeepsWithin n σ = Keeps (Within n) σ

pub unify_keeps_within : (n : ℕ) (s t : Term) (σ : Substitution) → unify s t ≡ some σ → Within n s → Within n t → KeepsWithin n σ
unify_keeps_within n s t σ e p q = unify_keeps (Within n) (λ s t b c. (b, c)) (λ s t b. b) s t σ e p q
