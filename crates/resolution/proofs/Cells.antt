-- Cells after a step, and terms with the present terms of cells. Assumes nothing.
use Rattle.std.proofs.Common.{◌≡◌, ℕ, zero, suc, ◌+◌, ◌<◌, ◌≤◌, List, [], ◌∷◌, ◌++◌, map, length, sym, refl, ap, ◌∙◌, ap₂, suc-add, arith, length-append}
use lib.ListN.{length-map}
use Rattle.terms.specs.Terms.{Term, var, atom, pair}
use Rattle.unification.specs.Variables.{Within, AllWithin, shifted}
use Rattle.unification.specs.Ground.{ground_pair, Replacement, replaced}
use Rattle.unification.specs.Substitutions.{Substitution, apply}
use Rattle.unification.proofs.Substitutions.{apply_atom, apply_pair}
use Rattle.resolution.specs.Cells.{fresh, cell, present}

pub fresh_length : (n k : ℕ) → length (fresh n k) ≡ k
fresh_length n zero = refl
fresh_length n (suc k) = ap suc (fresh_length (suc n) k)

pub fresh_within : (n k m : ℕ) → n + k ≤ m → AllWithin m (fresh n k)
fresh_within n zero m h = tt
fresh_within n (suc k) m h = (omega (arith, h), fresh_within (suc n) k m (omega (arith, h)))

pub cell_fresh : (n m k : ℕ) → k < m → cell (fresh n m) k ≡ var (n + k)
cell_fresh n zero k h = absurd (omega (arith, h))
cell_fresh n (suc m) zero h = ap var (omega arith)
cell_fresh n (suc m) (suc k) h = cell_fresh (suc n) m k (omega (arith, h)) ∙ ap var (omega arith)

pub cell_within : (n : ℕ) (cells : List Term) (k : ℕ) → AllWithin n cells → Within n (cell cells k)
cell_within n [] k h = tt
cell_within n (t ∷ cells) zero h = h.0
cell_within n (t ∷ cells) (suc k) h = cell_within n cells k h.1

-- the cells after a step that found σ and took v fresh cells
abbrev pub stepped : Substitution → List Term → ℕ → List Term
stepped σ cells v = map (apply σ) (cells ++ fresh (length cells) v)

pub step_length : (σ : Substitution) (cells : List Term) (v : ℕ) → length (stepped σ cells v) ≡ length cells + v
step_length σ cells v =
    length-map (cells ++ fresh (length cells) v) (apply σ) ∙ length-append cells (fresh (length cells) v) ∙ ap (λ (j : ℕ). length cells + j) (fresh_length (length cells) v)

cell_old : (σ : Substitution) (cells more : List Term) (k : ℕ) → k < length cells → cell (map (apply σ) (cells ++ more)) k ≡ apply σ (cell cells k)
cell_old σ [] more k h = absurd (omega (arith, h))
cell_old σ (t ∷ cells) more zero h = refl
cell_old σ (t ∷ cells) more (suc k) h = cell_old σ cells more k (omega (arith, h))

cell_map : (σ : Substitution) (ts : List Term) (k : ℕ) → k < length ts → cell (map (apply σ) ts) k ≡ apply σ (cell ts k)
cell_map σ [] k h = absurd (omega (arith, h))
cell_map σ (t ∷ ts) zero h = refl
cell_map σ (t ∷ ts) (suc k) h = cell_map σ ts k (omega (arith, h))

cell_after : (σ : Substitution) (cells more : List Term) (k : ℕ) → cell (map (apply σ) (cells ++ more)) (length cells + k) ≡ cell (map (apply σ) more) k
cell_after σ [] more k = ap (cell (map (apply σ) more)) (omega arith)
cell_after σ (t ∷ cells) more k = ap (cell (map (apply σ) ((t ∷ cells) ++ more))) (suc-add (length cells) k) ∙ cell_after σ cells more k

-- an older cell has what was found put in
pub cell_kept : (σ : Substitution) (cells : List Term) (v k : ℕ) → k < length cells → cell (stepped σ cells v) k ≡ apply σ (cell cells k)
cell_kept σ cells v k h = cell_old σ cells (fresh (length cells) v) k h

-- a fresh cell has what was found for its variable
pub cell_new : (σ : Substitution) (cells : List Term) (v k : ℕ) → k < v → cell (stepped σ cells v) (length cells + k) ≡ apply σ (var (length cells + k))
cell_new σ cells v k h =
    cell_after σ cells (fresh (length cells) v) k ∙ cell_map σ (fresh (length cells) v) k (omega (arith, h, fresh_length (length cells) v)) ∙ ap (apply σ) (cell_fresh (length cells) v k h)

-- a term over older cells has what was found put in; a rule's term over its fresh cells is what was found for it
pub present_kept : (σ : Substitution) (cells : List Term) (v : ℕ) (t : Term) → Within (length cells) t → present (stepped σ cells v) t ≡ apply σ (present cells t)
present_kept σ cells v (var k) h = cell_kept σ cells v k h
present_kept σ cells v (atom a) h = sym (apply_atom σ a)
present_kept σ cells v (pair s t) h = ap₂ pair (present_kept σ cells v s h.0) (present_kept σ cells v t h.1) ∙ sym (apply_pair σ (present cells s) (present cells t))

pub present_new : (σ : Substitution) (cells : List Term) (v : ℕ) (t : Term) → Within v t
    → present (stepped σ cells v) (shifted (length cells) t) ≡ apply σ (shifted (length cells) t)
present_new σ cells v (var k) h = cell_new σ cells v k h
present_new σ cells v (atom a) h = sym (apply_atom σ a)
present_new σ cells v (pair s t) h =
    ap₂ pair (present_new σ cells v s h.0) (present_new σ cells v t h.1) ∙ sym (apply_pair σ (shifted (length cells) s) (shifted (length cells) t))

pub present_fresh : (n : ℕ) (t : Term) → Within n t → present (fresh 0 n) t ≡ t
present_fresh n (var k) h = cell_fresh 0 n k h ∙ ap var (omega arith)
present_fresh n (atom a) h = refl
present_fresh n (pair s t) h = ap₂ pair (present_fresh n s h.0) (present_fresh n t h.1)

-- a replacement of the present term is one of the term itself, by what its cells become
pub replaced_present : (γ : Replacement) (cells : List Term) (n : ℕ) (t : Term) → replaced γ (present cells (shifted n t)) ≡ replaced (λ x. replaced γ (cell cells (n + x))) t
replaced_present γ cells n (var x) = refl
replaced_present γ cells n (atom a) = refl
replaced_present γ cells n (pair s t) = ap₂ ground_pair (replaced_present γ cells n s) (replaced_present γ cells n t)

pub replaced_as : (γ θ : Replacement) (cells : List Term) (n : ℕ) → ((k : ℕ) → k < n → replaced γ (cell cells k) ≡ θ k)
    → (t : Term) → Within n t → replaced γ (present cells t) ≡ replaced θ t
replaced_as γ θ cells n e (var k) h = e k h
replaced_as γ θ cells n e (atom a) h = refl
replaced_as γ θ cells n e (pair s t) h = ap₂ ground_pair (replaced_as γ θ cells n e s h.0) (replaced_as γ θ cells n e t h.1)

-- two ways of changing the terms of a list that agree within a bound
pub map_same : {A : Type 0} (n : ℕ) (f g : Term → A) → ((t : Term) → Within n t → f t ≡ g t) → (ts : List Term) → AllWithin n ts → map f ts ≡ map g ts
map_same n f g e [] h = refl
map_same n f g e (t ∷ ts) h = ap₂ ◌∷◌ (e t h.0) (map_same n f g e ts h.1)

pub map_map : {A B C : Type 0} (f : B → C) (g : A → B) (xs : List A) → map f (map g xs) ≡ map (λ x. f (g x)) xs
map_map f g [] = refl
map_map f g (x ∷ xs) = ap (λ (l : List _). f (g x) ∷ l) (map_map f g xs)

pub map-append : {A B : Type 0} (f : A → B) (xs ys : List A) → map f (xs ++ ys) ≡ map f xs ++ map f ys
map-append f [] ys = refl
map-append f (x ∷ xs) ys = ap (λ (l : List _). f x ∷ l) (map-append f xs ys)
