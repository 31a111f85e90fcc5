-- Bounds on the variables of terms. Assumes nothing.
use mathlib.Core.List.{List, [], ◌∷◌, ◌++◌, map}
use Prim.Native.Nat.{ℕ, ◌+◌, ◌≤◌}
use native.Mathlib.Omega.{arith}
use Rattle.terms.specs.Terms.{Term, var, atom, pair}
use Rattle.unification.specs.Variables.{Within, AllWithin, shifted}

pub within_more : (n m : ℕ) → n ≤ m → (t : Term) → Within n t → Within m t
within_more n m l (var x) b = omega (arith, b, l)
within_more n m l (atom a) b = tt
within_more n m l (pair s t) b = (within_more n m l s b.0, within_more n m l t b.1)

pub all_within_more : (n m : ℕ) → n ≤ m → (ts : List Term) → AllWithin n ts → AllWithin m ts
all_within_more n m l [] b = tt
all_within_more n m l (t ∷ ts) b = (within_more n m l t b.0, all_within_more n m l ts b.1)

pub all_within_append : (n : ℕ) (ss ts : List Term) → AllWithin n ss → AllWithin n ts → AllWithin n (ss ++ ts)
all_within_append n [] ts b c = c
all_within_append n (s ∷ ss) ts b c = (b.0, all_within_append n ss ts b.1 c)

pub all_within_map : (n m : ℕ) (f : Term → Term) → ((t : Term) → Within n t → Within m (f t)) → (ts : List Term) → AllWithin n ts → AllWithin m (map f ts)
all_within_map n m f h [] b = tt
all_within_map n m f h (t ∷ ts) b = (h t b.0, all_within_map n m f h ts b.1)

pub within_shifted : (n m : ℕ) (t : Term) → Within m t → Within (n + m) (shifted n t)
within_shifted n m (var x) b = omega (arith, b)
within_shifted n m (atom a) b = tt
within_shifted n m (pair s t) b = (within_shifted n m s b.0, within_shifted n m t b.1)
