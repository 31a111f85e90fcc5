-- Bytes laid over others. Assumes nothing.
use Rattle.std.specs.Prelude.{ℕ, zero, suc, List, [], ◌∷◌}

-- the bytes bs over those of xs from the place k on, as far as xs goes
abbrev pub laid : ℕ → List ℕ → List ℕ → List ℕ
laid zero [] xs = xs
laid zero (b ∷ bs) [] = []
laid zero (b ∷ bs) (x ∷ xs) = b ∷ laid zero bs xs
laid (suc k) bs [] = []
laid (suc k) bs (x ∷ xs) = x ∷ laid k bs xs
