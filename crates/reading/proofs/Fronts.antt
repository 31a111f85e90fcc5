-- The front of a frame. Assumes nothing.
use Rattle.std.proofs.Common.{◌≡◌, ℕ, ◌+◌, ◌-◌, ◌*◌, ◌≤◌, List, [], ◌∷◌, length, get_or, take, drop, Ok, ap, arith}
use Rattle.std.proofs.lemmas.List.{take_rest}
use Rattle.grammar.specs.Singles.{Header, header}

abbrev taken_apart : List ℕ → List ℕ → Header
taken_apart bs rest = record { variables = get_or bs 1 0; goals = get_or bs 2 0; size = get_or bs 3 0 * 256 + get_or bs 4 0; rest = rest }

-- a header that is taken apart
pub header_is : (p : ℕ) (bs : List ℕ) → 5 ≤ length bs → Ok (taken_apart bs (take (length bs - 5) (drop 5 bs))) ≡ header p (drop 1 bs)
header_is p [] l = absurd (omega arith)
header_is p (t ∷ []) l = absurd (omega arith)
header_is p (t ∷ v ∷ []) l = absurd (omega arith)
header_is p (t ∷ v ∷ g ∷ []) l = absurd (omega arith)
header_is p (t ∷ v ∷ g ∷ h ∷ []) l = absurd (omega arith)
header_is p (t ∷ v ∷ g ∷ h ∷ m ∷ bs) l = ap (λ r. Ok (taken_apart (t ∷ v ∷ g ∷ h ∷ m ∷ bs) r)) (take_rest (t ∷ v ∷ g ∷ h ∷ m ∷ bs) 5)
