-- Bytes laid over others: one by one, one after the other. Assumes nothing.
use Rattle.std.proofs.Common.{◌≡◌, ℕ, zero, suc, ◌+◌, List, [], ◌∷◌, ◌++◌, length, set, refl, ap, arith}
use Rattle.bindings.specs.Overlays.{laid}

pub laid_nothing : (k : ℕ) (xs : List ℕ) → laid k [] xs ≡ xs
laid_nothing zero xs = refl
laid_nothing (suc k) [] = refl
laid_nothing (suc k) (x ∷ xs) = ap (λ (l : List ℕ). x ∷ l) (laid_nothing k xs)

-- one byte
pub laid_one : (k b : ℕ) (xs : List ℕ) → laid k (b ∷ []) xs ≡ set xs k b
laid_one zero b [] = refl
laid_one zero b (x ∷ xs) = refl
laid_one (suc k) b [] = refl
laid_one (suc k) b (x ∷ xs) = ap (λ (l : List ℕ). x ∷ l) (laid_one k b xs)

-- some bytes and then others after them
pub laid_then : (k m : ℕ) (cs bs xs : List ℕ) → m ≡ k + length cs → laid m bs (laid k cs xs) ≡ laid k (cs ++ bs) xs
laid_then zero zero [] bs xs e = refl
laid_then zero (suc m) [] bs xs e = absurd (omega (arith, e))
laid_then zero zero (c ∷ cs) bs xs e = absurd (omega (arith, e))
laid_then zero (suc m) (c ∷ cs) bs [] e = refl
laid_then zero (suc m) (c ∷ cs) bs (x ∷ xs) e = ap (λ (l : List ℕ). c ∷ l) (laid_then zero m cs bs xs (omega (arith, e)))
laid_then (suc k) zero cs bs xs e = absurd (omega (arith, e))
laid_then (suc k) (suc m) cs bs [] e = refl
laid_then (suc k) (suc m) cs bs (x ∷ xs) e = ap (λ (l : List ℕ). x ∷ l) (laid_then k m cs bs xs (omega (arith, e)))
