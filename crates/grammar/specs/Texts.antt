-- Lists of rules in bytes, as stores mean them. Assumes nothing.
use Rattle.std.specs.Prelude.{ℕ, ◌+◌, Bool, true, ◌&&◌, List, [], ◌∷◌, map, length, is_ok, Ok, Err, Result, nat_lt}
use Rattle.grammar.specs.Singles.{rule}
use Rattle.grammar.specs.Encodings.{rule_bytes}
use Rattle.grammar.specs.Items.{Item, rules}

-- each is a byte
abbrev pub all_bytes : List ℕ → Bool
all_bytes [] = true
all_bytes (b ∷ bs) = nat_lt b 256 && all_bytes bs

-- the bytes pass the questions for a single rule
abbrev pub fit : List ℕ → Bool
fit bs = all_bytes bs && is_ok (rule bs)

abbrev pub all_fit : List (List ℕ) → Bool
all_fit [] = true
all_fit (t ∷ ts) = fit t && all_fit ts

-- how many bytes the rules have together
abbrev pub total : List (List ℕ) → ℕ
total [] = 0
total (t ∷ ts) = length t + total ts

-- the rules of a book in bytes, in their order; a book that is refused has none
abbrev pub texts_of : {E : Type 0} → Result (List Item) E → List (List ℕ)
texts_of (Ok is) = map rule_bytes (rules is)
texts_of (Err e) = []
