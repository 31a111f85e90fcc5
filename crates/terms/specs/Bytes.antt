-- The byte form of terms. Assumes nothing.
use Rattle.std.specs.Prelude.{List, [], ◌∷◌, ◌++◌, ℕ, ◌/◌, ◌%◌, ◌<◌}
use Rattle.terms.specs.declared.Form.{Form}
use Rattle.terms.specs.declared.Form.TheVariants.{Rules, Slips}
use Rattle.terms.specs.Terms.{Term, var, atom, pair}

-- a number in two bytes, the high one first
abbrev pub two : ℕ → List ℕ
two n = n / 256 ∷ n % 256 ∷ []

-- a variable is `02` with one byte, an unknown `04` with two
abbrev pub variable : Form → ℕ → List ℕ
variable Rules x = 0x02 ∷ x ∷ []
variable Slips x = 0x04 ∷ two x

-- an atom is `01` with two bytes, a pair `03`, its first part and its rest
abbrev pub encoding : Form → Term → List ℕ
encoding f (var x) = variable f x
encoding f (atom a) = 0x01 ∷ two a
encoding f (pair s t) = 0x03 ∷ (encoding f s ++ encoding f t)

-- one term after the other
abbrev pub encodings : Form → List Term → List ℕ
encodings f [] = []
encodings f (t ∷ ts) = encoding f t ++ encodings f ts

-- each variable is below v, and each atom has a number of two bytes
abbrev pub Fits : ℕ → Term → Type 0
Fits v (var x) = x < v
Fits v (atom a) = a < 65536
Fits v (pair s t) = Fits v s × Fits v t

abbrev pub AllFit : ℕ → List Term → Type 0
AllFit v [] = Unit {0}
AllFit v (t ∷ ts) = Fits v t × AllFit v ts
