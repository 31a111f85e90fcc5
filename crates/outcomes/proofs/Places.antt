-- Two lists at a place that both have.
use Rattle.std.proofs.Common.{◌≡◌, ℕ, ◌+◌, ◌<◌, length, List, Some, arith, take, get_or, min, ◌≢◌}
use Rattle.std.proofs.Math.Seq.{take-suc}
use Rattle.std.proofs.lemmas.Option.{slice_get_cases, slice_get-get_or}
use Rattle.std.specs.Prelude.{slice_get}

-- what stands at a place, as code reads it
pub record AtPlace {A : Type 0} (xs : List A) (place : ℕ) (x : A) : Type 0 where
  pub within : place < length xs
  pub is : x ≡ get_or xs place x

reads : {A : Type 0} (xs : List A) (place : ℕ) (x : A) → AtPlace xs place x → slice_get xs place ≡ Some x
reads xs place x at = grind (arith, slice_get-get_or xs place x at.within, at.is)

-- other elements there make the lists differ there
pub apart : {A : Type 0} (xs ys : List A) (place : ℕ) (x y : A) → AtPlace xs place x → AtPlace ys place y →
    (x ≡ y → ⊥) → slice_get xs place ≢ slice_get ys place
apart xs ys place x y here there differ same = grind (arith, reads xs place x here, reads ys place y there, differ, same)

-- equal elements there keep the lists the same one place further
pub further : {A : Type 0} (xs ys : List A) (place : ℕ) (x y : A) → AtPlace xs place x → AtPlace ys place y →
    x ≡ y → take place xs ≡ take place ys → take (place + 1) xs ≡ take (place + 1) ys
further xs ys place x y here there same before =
    grind (arith, take-suc xs place x here.within, take-suc ys place y there.within, here.is, there.is, same, before)

-- lists of unequal lengths differ where the shorter one ends
pub ends-apart : {A : Type 0} (xs ys : List A) (place : ℕ) → place ≡ min (length xs) (length ys) →
    (length xs ≡ length ys → ⊥) → slice_get xs place ≢ slice_get ys place
ends-apart xs ys place shorter unequal same =
    grind (arith, slice_get_cases xs place, slice_get_cases ys place, shorter, unequal, same)
