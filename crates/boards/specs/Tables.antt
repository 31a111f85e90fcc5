-- The rules in the table of a board: they stand one right after the other. Assumes nothing.
use Rattle.std.specs.Prelude.{◌≡◌, ℕ, ◌+◌, ◌-◌, List, [], ◌∷◌, length, take, drop}
use Rattle.books.specs.Writing.{joined}

-- the bytes from p on, cut at each of the ends
abbrev pub cut : ℕ → List ℕ → List ℕ → List (List ℕ)
cut p [] bs = []
cut p (e ∷ es) bs = take (e - p) (drop p bs) ∷ cut e es bs

-- where each of the rules ends, if the first begins at p
abbrev pub ends_from : ℕ → List (List ℕ) → List ℕ
ends_from p [] = []
ends_from p (t ∷ ts) = (p + length t) ∷ ends_from (p + length t) ts

-- these ends and bytes are those of the rules, one right after the other
abbrev pub Held : List ℕ → List ℕ → List (List ℕ) → Type 0
Held ends bytes ts = (ends ≡ ends_from 0 ts) × (bytes ≡ joined ts)
