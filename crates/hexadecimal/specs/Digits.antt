-- Hexadecimal digits, by the codes of their letters. Assumes nothing.
use Rattle.std.specs.Prelude.{ℕ, ◌+◌, ◌-◌, ◌*◌, ◌/◌, ◌%◌, cond, ◌&&◌, List, [], ◌∷◌, Some, None, Option, nat_le, nat_lt}

-- 0 to 9, A to F, a to f
abbrev pub digit_value : ℕ → Option ℕ
digit_value c =
    cond (nat_le 48 c && nat_lt c 58) (Some (c - 48))
    (cond (nat_le 65 c && nat_lt c 71) (Some (c - 55))
    (cond (nat_le 97 c && nat_lt c 103) (Some (c - 87))
    None))

abbrev pub digit_letter : ℕ → ℕ
digit_letter v = cond (nat_lt v 10) (v + 48) (v + 55)

-- a byte of two digits, before the bytes that follow
abbrev pub with_byte : Option ℕ → Option ℕ → Option (List ℕ) → Option (List ℕ)
with_byte (Some h) (Some l) (Some bs) = Some ((h * 16 + l) ∷ bs)
with_byte (Some h) (Some l) None = None
with_byte (Some h) None more = None
with_byte None low more = None

-- the bytes that the letters spell
abbrev pub decoded : List ℕ → Option (List ℕ)
decoded [] = Some []
decoded (h ∷ []) = None
decoded (h ∷ l ∷ cs) = with_byte (digit_value h) (digit_value l) (decoded cs)

-- the letters of bytes
abbrev pub encoded : List ℕ → List ℕ
encoded [] = []
encoded (b ∷ bs) = digit_letter (b / 16) ∷ digit_letter (b % 16) ∷ encoded bs
