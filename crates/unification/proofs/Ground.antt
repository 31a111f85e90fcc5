-- Ground terms and their parts; replacement in substituted and shifted terms. Assumes nothing.
use mathlib.Core.Path.{◌≡◌, refl, sym, ◌∙◌, ap, ap₂, subst}
use mathlib.Core.Bool.{Bool, true, false, cond}
use mathlib.Core.List.{List, [], ◌∷◌, ◌++◌, map}
use Prim.Native.Nat.{ℕ, suc, ◌+◌, ◌≤◌, ◌<◌}
use native.Mathlib.Omega.{arith}
use lib.Dec.{T, eqb, eqb→eq}
use Rattle.terms.specs.Terms.{Term, var, atom, pair}
use Rattle.unification.specs.Variables.{occurs, shifted}
use Rattle.unification.specs.Ground.{Ground, ground_atom, ground_pair, Replacement, replaced, all_replaced}
use Rattle.unification.specs.Substitutions.{put, Substitution, apply}
use Rattle.unification.proofs.Substitutions.{apply_atom, apply_pair}

first : Ground → Ground
first (ground_atom a) = ground_atom a
first (ground_pair a b) = a

rest : Ground → Ground
rest (ground_atom a) = ground_atom a
rest (ground_pair a b) = b

number : Ground → ℕ
number (ground_atom a) = a
number (ground_pair a b) = 0

IsPair : Ground → Type 0
IsPair (ground_atom a) = ⊥
IsPair (ground_pair a b) = Unit {0}

pub pair_first : {a b c d : Ground} → ground_pair a b ≡ ground_pair c d → a ≡ c
unfolding first
pair_first e = ap first e

pub pair_rest : {a b c d : Ground} → ground_pair a b ≡ ground_pair c d → b ≡ d
unfolding rest
pair_rest e = ap rest e

pub atom_number : {a b : ℕ} → ground_atom a ≡ ground_atom b → a ≡ b
unfolding number
atom_number e = ap number e

pub pair≢atom : {a b : Ground} {c : ℕ} → ground_pair a b ≡ ground_atom c → ⊥
unfolding IsPair
pair≢atom e = subst IsPair e tt

pub size : Ground → ℕ
size (ground_atom a) = 1
size (ground_pair a b) = suc (size a + size b)

size_pair : (γ : Replacement) (x : ℕ) (s t : Term) (b : Bool) → occurs x s ≡ b → cond b true (occurs x t) ≡ true
    → (occurs x s ≡ true → size (γ x) ≤ size (replaced γ s)) → (occurs x t ≡ true → size (γ x) ≤ size (replaced γ t))
    → size (γ x) < size (ground_pair (replaced γ s) (replaced γ t))
unfolding size
size_pair γ x s t true e k f g = omega (arith, f e)
size_pair γ x s t false e k f g = omega (arith, g k)

-- what replaces a variable of a term is no larger than the replaced term
size_occurs : (γ : Replacement) (x : ℕ) (t : Term) → occurs x t ≡ true → size (γ x) ≤ size (replaced γ t)
size_occurs γ x (var y) k = subst (λ (z : ℕ). size (γ x) ≤ size (γ z)) (eqb→eq x y (subst T (sym k) tt)) (omega arith)
size_occurs γ x (atom a) k = absurd (subst T (sym k) tt)
size_occurs γ x (pair s t) k =
    let h : size (γ x) < size (ground_pair (replaced γ s) (replaced γ t)) = size_pair γ x s t (occurs x s) refl k (size_occurs γ x s) (size_occurs γ x t) in
    omega (arith, h)

-- no replacement gives a variable a pair that it occurs in
pub no_cycle : (γ : Replacement) (x : ℕ) (s t : Term) → occurs x (pair s t) ≡ true → γ x ≡ replaced γ (pair s t) → ⊥
no_cycle γ x s t k e =
    let h : size (γ x) < size (ground_pair (replaced γ s) (replaced γ t)) = size_pair γ x s t (occurs x s) refl k (size_occurs γ x s) (size_occurs γ x t) in
    omega (arith, h, ap size e)

replaced_choice : (γ : Replacement) (x : ℕ) (s : Term) → γ x ≡ replaced γ s → (y : ℕ) (b : Bool) → eqb x y ≡ b → replaced γ (cond b s (var y)) ≡ γ y
replaced_choice γ x s h y true e = sym h ∙ ap γ (eqb→eq x y (subst T (sym e) tt))
replaced_choice γ x s h y false e = refl

-- a replacement keeps a binding that it agrees with
pub replaced_put : (γ : Replacement) (x : ℕ) (s : Term) → γ x ≡ replaced γ s → (t : Term) → replaced γ (put x s t) ≡ replaced γ t
replaced_put γ x s h (var y) = replaced_choice γ x s h y (eqb x y) refl
replaced_put γ x s h (atom a) = refl
replaced_put γ x s h (pair t u) = ap₂ ground_pair (replaced_put γ x s h t) (replaced_put γ x s h u)

-- the replacement after a substitution
abbrev pub behind : Replacement → Substitution → Replacement
behind γ σ x = replaced γ (apply σ (var x))

pub replaced_apply : (γ : Replacement) (σ : Substitution) (t : Term) → replaced γ (apply σ t) ≡ replaced (behind γ σ) t
replaced_apply γ σ (var x) = refl
replaced_apply γ σ (atom a) = ap (replaced γ) (apply_atom σ a)
replaced_apply γ σ (pair s t) = ap (replaced γ) (apply_pair σ s t) ∙ ap₂ ground_pair (replaced_apply γ σ s) (replaced_apply γ σ t)

pub replaced_shifted : (γ : Replacement) (n : ℕ) (t : Term) → replaced γ (shifted n t) ≡ replaced (λ x. γ (n + x)) t
replaced_shifted γ n (var x) = refl
replaced_shifted γ n (atom a) = refl
replaced_shifted γ n (pair s t) = ap₂ ground_pair (replaced_shifted γ n s) (replaced_shifted γ n t)

-- lists: term by term
pub all_replaced_by : (γ δ : Replacement) (f : Term → Term) → ((t : Term) → replaced γ (f t) ≡ replaced δ t) → (ts : List Term) → all_replaced γ (map f ts) ≡ all_replaced δ ts
all_replaced_by γ δ f e [] = refl
all_replaced_by γ δ f e (t ∷ ts) = ap₂ ◌∷◌ (e t) (all_replaced_by γ δ f e ts)

pub all_replaced_append : (γ : Replacement) (ss ts : List Term) → all_replaced γ (ss ++ ts) ≡ all_replaced γ ss ++ all_replaced γ ts
all_replaced_append γ [] ts = refl
all_replaced_append γ (s ∷ ss) ts = ap (λ (l : List Ground). replaced γ s ∷ l) (all_replaced_append γ ss ts)
