-- Choices by a test. Assumes nothing.
use mathlib.Core.Path.{◌≡◌, refl}
use mathlib.Core.Bool.{Bool, true, false, not, cond}
use lib.Dec.{T}

pub T→true : (b : Bool) → T b → b ≡ true
T→true true t = refl
T→true false t = absurd t

pub not_T→false : (b : Bool) → T (not b) → b ≡ false
not_T→false true t = absurd t
not_T→false false t = refl

-- what holds of each side, where the test goes to it, holds of the choice
pub cond_by : {A : Type 0} (P : A → Type 0) (b : Bool) {x y : A} → (T b → P x) → (T (not b) → P y) → P (cond b x y)
cond_by P true f g = f tt
cond_by P false f g = g tt

-- the same, with the test's value as an equation
pub cond_at : {A : Type 0} (P : A → Type 0) (b : Bool) {x y : A} → (b ≡ true → P x) → (b ≡ false → P y) → P (cond b x y)
cond_at P true f g = f refl
cond_at P false f g = g refl
