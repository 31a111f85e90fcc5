-- What is written of an answer in hand. Assumes nothing.
use Rattle.std.proofs.Common.{◌≡◌, ℕ, ◌≤◌, Bool, true, false, cond, leb, List, [], ◌∷◌, ◌++◌, length, drop, Some, None, Ok, Err, Result, refl, ap, ◌∙◌, ap₂, arith, leb-true}
use Rattle.std.specs.Option.{ok_or}
use Rattle.slips.specs.declared.faults.WriteRefusal.{WriteRefusal}
use Rattle.slips.specs.declared.faults.WriteRefusal.TheVariants.{NoRoom}
use Rattle.slips.specs.Runs.{wrote, written}
use Rattle.bindings.specs.Overlays.{laid}
use Rattle.machine.specs.Sinks.{fitting, written as laid_if}

-- Bytes laid over the front of others stand before the rest of them.
laid_front : (bs xs : List ℕ) → length bs ≤ length xs → laid 0 bs xs ≡ bs ++ drop (length bs) xs
laid_front [] xs l = refl
laid_front (b ∷ bs) [] l = absurd (omega (arith, l))
laid_front (b ∷ bs) (x ∷ xs) l = ap (λ (ys : List ℕ). b ∷ ys) (laid_front bs xs (omega (arith, l)))

-- What is told and left of bytes that were laid over a buffer, where it has room for them, is what is owed.
pub wrote_fitting : (bs buffer now : List ℕ) (r : Result ℕ WriteRefusal) → r ≡ ok_or (fitting bs buffer) NoRoom → now ≡ laid_if bs buffer → wrote r now ≡ written bs buffer
wrote_fitting bs buffer now r e is = by (leb (length bs) (length buffer)) refl e is
  where
    by : (t : Bool) → leb (length bs) (length buffer) ≡ t → r ≡ ok_or (cond t (Some (length bs)) None) NoRoom → now ≡ cond t (laid 0 bs buffer) buffer
        → wrote r now ≡ cond t (wrote (Ok (length bs)) (bs ++ drop (length bs) buffer)) (wrote (Err NoRoom) buffer)
    by true l e i = ap₂ (λ (x : Result ℕ WriteRefusal) (y : List ℕ). wrote x y) e (i ∙ laid_front bs buffer (leb-true (length bs) (length buffer) l))
    by false l e i = ap₂ (λ (x : Result ℕ WriteRefusal) (y : List ℕ). wrote x y) e i
