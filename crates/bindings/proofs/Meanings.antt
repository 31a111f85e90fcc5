-- Meanings of atoms, pairs and variables, how many look-ups they take, and how large they are. Assumes nothing.
use Rattle.std.proofs.Common.{◌≡◌, ℕ, zero, suc, ◌+◌, ◌-◌, ◌*◌, ◌≤◌, Bool, true, false, cond, eqb, [], ◌∷◌, length, sym, refl, ap, ◌∙◌, subst, inl, inr, le_trans, le_refl, suc-mul, add-mul, mul-le-mul, one-mul, arith}
use lib.Dec.{eqb_refl}
use Rattle.terms.specs.Terms.{Term, var, atom, pair}
use Rattle.unification.specs.Variables.{is_variable, occurs}
use Rattle.unification.specs.Substitutions.{put}
use Rattle.bindings.specs.Meanings.{Trail, meaning, Unbound, Binds, Acyclic, size, lookups, growth, AllSized}
use Rattle.unification.proofs.Choice.{T→true}
use Rattle.unification.proofs.Substitutions.{put_same, put_absent}

pub meaning_atom : (L : Trail) (a : ℕ) → meaning L (atom a) ≡ atom a
meaning_atom [] a = refl
meaning_atom (b ∷ L) a = ap (put b.0 (meaning L b.1)) (meaning_atom L a)

pub meaning_pair : (L : Trail) (s t : Term) → meaning L (pair s t) ≡ pair (meaning L s) (meaning L t)
meaning_pair [] s t = refl
meaning_pair (b ∷ L) s t = ap (put b.0 (meaning L b.1)) (meaning_pair L s t)

-- a variable without a binding means itself
pub meaning_unbound : (c : ℕ) (L : Trail) → Unbound c L → meaning L (var c) ≡ var c
meaning_unbound c [] u = refl
meaning_unbound c (b ∷ L) u =
    ap (put b.0 (meaning L b.1)) (meaning_unbound c L u.1) ∙ ap (λ (k : Bool). cond k (meaning L b.1) (var c)) u.0

pub lookups_unbound : (c : ℕ) (L : Trail) → Unbound c L → lookups L (var c) ≡ 0
unfolding lookups
lookups_unbound c [] u = refl
lookups_unbound c (b ∷ L) u =
    let e : is_variable b.0 (meaning L (var c)) ≡ false = ap (is_variable b.0) (meaning_unbound c L u.1) ∙ u.0 in
    let f : cond (is_variable b.0 (meaning L (var c))) (suc (lookups L b.1)) 0 ≡ 0 = ap (λ (k : Bool). cond k (suc (lookups L b.1)) 0) e in
    omega (arith, lookups_unbound c L u.1)

-- a variable and the term bound to it mean the same
pub meaning_bound : (c : ℕ) (t : Term) (L : Trail) → Acyclic L → Binds c t L → meaning L (var c) ≡ meaning L t
meaning_bound c t [] f h = absurd h
meaning_bound c t (b ∷ L) f (inl e) =
    ap (λ (x : ℕ). meaning (b ∷ L) (var x)) (sym e.0)
    ∙ ap (put b.0 (meaning L b.1)) (meaning_unbound b.0 L f.0)
    ∙ put_same b.0 (meaning L b.1)
    ∙ sym (put_absent b.0 (meaning L b.1) (meaning L b.1) f.1)
    ∙ ap (meaning (b ∷ L)) e.1
meaning_bound c t (b ∷ L) f (inr h) = ap (put b.0 (meaning L b.1)) (meaning_bound c t L f.2 h)

variable_occurs : (c : ℕ) (t : Term) → occurs c t ≡ false → is_variable c t ≡ false
variable_occurs c (var x) e = e
variable_occurs c (atom a) e = refl
variable_occurs c (pair s t) e = refl

-- going on with the term bound to a variable takes one look-up less
pub lookups_bound : (c : ℕ) (t : Term) (L : Trail) → Acyclic L → Binds c t L → lookups L (var c) ≡ suc (lookups L t)
unfolding lookups
lookups_bound c t [] f h = absurd h
lookups_bound c t (b ∷ L) f (inl e) =
    ap (λ (x : ℕ). lookups (b ∷ L) (var x)) (sym e.0) ∙ here ∙ ap (λ (s : Term). suc (lookups (b ∷ L) s)) e.1
  where
    one : cond (is_variable b.0 (meaning L (var b.0))) (suc (lookups L b.1)) 0 ≡ suc (lookups L b.1)
    one = ap (λ (s : Term). cond (is_variable b.0 s) (suc (lookups L b.1)) 0) (meaning_unbound b.0 L f.0) ∙ ap (λ (k : Bool). cond k (suc (lookups L b.1)) 0) (T→true (eqb b.0 b.0) (eqb_refl b.0))

    nought : cond (is_variable b.0 (meaning L b.1)) (suc (lookups L b.1)) 0 ≡ 0
    nought = ap (λ (k : Bool). cond k (suc (lookups L b.1)) 0) (variable_occurs b.0 (meaning L b.1) f.1)

    here : lookups (b ∷ L) (var b.0) ≡ suc (lookups (b ∷ L) b.1)
    here = omega (arith, one, nought, lookups_unbound b.0 L f.0)
lookups_bound c t (b ∷ L) f (inr h) =
    let e : cond (is_variable b.0 (meaning L (var c))) (suc (lookups L b.1)) 0 ≡ cond (is_variable b.0 (meaning L t)) (suc (lookups L b.1)) 0 =
    ap (λ (s : Term). cond (is_variable b.0 s) (suc (lookups L b.1)) 0) (meaning_bound c t L f.2 h) in
    omega (arith, lookups_bound c t L f.2 h)

pub size_positive : (t : Term) → 1 ≤ size t
size_positive (var x) = omega arith
size_positive (atom a) = omega arith
size_positive (pair s t) = omega arith

cond_size : (k : Bool) (u : Term) (y : ℕ) → size (cond k u (var y)) ≤ 1 * size u
cond_size true u y = omega (arith, one-mul (size u))
cond_size false u y = omega (arith, one-mul (size u), size_positive u)

pub put_size : (c : ℕ) (u t : Term) → size (put c u t) ≤ size t * size u
put_size c u (var y) = cond_size (eqb c y) u y
put_size c u (atom a) = omega (arith, one-mul (size u), size_positive u)
put_size c u (pair s t) =
    let a = put_size c u s in
    let b = put_size c u t in
    let p = size_positive u in
    omega (arith, suc-mul (size s + size t) (size u), add-mul (size s) (size t) (size u))

pub meaning_size : (n : ℕ) (L : Trail) → AllSized n L → (t : Term) → size t ≤ n → size (meaning L t) ≤ growth n (length L)
unfolding growth
meaning_size n [] s t h = h
meaning_size n (b ∷ L) s t h =
    le_trans (put_size b.0 (meaning L b.1) (meaning L t)) (mul-le-mul (meaning_size n L s.1 t h) (meaning_size n L s.1 b.1 s.0))

growth_positive : (n k : ℕ) → 1 ≤ n → 1 ≤ growth n k
unfolding growth
growth_positive n zero h = h
growth_positive n (suc k) h = mul-le-mul (growth_positive n k h) (growth_positive n k h)

growth_more : (n k : ℕ) → 1 ≤ n → growth n k ≤ growth n (suc k)
unfolding growth
growth_more n k h =
    let m : 1 * growth n k ≤ growth n k * growth n k = mul-le-mul (growth_positive n k h) (le_refl (growth n k)) in
    omega (arith, one-mul (growth n k))

growth_by : (n k j : ℕ) → 1 ≤ n → growth n k ≤ growth n (j + k)
growth_by n k zero h = subst (λ (m : ℕ). growth n k ≤ growth n m) (omega arith) (le_refl (growth n k))
growth_by n k (suc j) h =
    le_trans (growth_by n k j h) (subst (λ (m : ℕ). growth n (j + k) ≤ growth n m) (omega arith) (growth_more n (j + k) h))

pub growth_grows : (n k m : ℕ) → 1 ≤ n → k ≤ m → growth n k ≤ growth n m
growth_grows n k m h l = subst (λ (x : ℕ). growth n k ≤ growth n x) (omega arith) (growth_by n k (m - k) h)
