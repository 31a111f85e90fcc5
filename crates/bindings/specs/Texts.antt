-- Terms in a text of bytes. Assumes nothing.
use Rattle.std.specs.Prelude.{◌≡◌, ℕ, zero, suc, ◌+◌, ◌*◌, ◌<◌, cond, List, [], ◌∷◌, length, ◌==◌, slice_index}
use Rattle.terms.specs.Terms.{Term, var, atom, pair}
use Rattle.unification.specs.Variables.{shifted, Within}

-- the term stands in the text from p up to q
abbrev pub Spans : List ℕ → ℕ → Term → ℕ → Type 0
Spans text p (var x) q = (p + 1 < length text) × (slice_index text p ≡ 2) × (x ≡ slice_index text (p + 1)) × (q ≡ p + 2)
Spans text p (atom a) q =
    (p + 2 < length text) × (slice_index text p ≡ 1) × (a ≡ slice_index text (p + 1) * 256 + slice_index text (p + 2)) × (q ≡ p + 3)
Spans text p (pair s t) q = (p < length text) × (slice_index text p ≡ 3) × ((m : ℕ) × Spans text (p + 1) s m × Spans text m t q)

-- a first part with the place after it, and then the rest
abbrev pub paired : Term × ℕ → (ℕ → Term × ℕ) → Term × ℕ
paired f rest = (pair f.0 (rest f.1).0, (rest f.1).1)

-- what is read at p within n commands, and the place after it
unfoldable pub read_within : ℕ → List ℕ → ℕ → Term × ℕ
read_within zero text p = (atom 0, p)
read_within (suc n) text p =
    cond (slice_index text p == 1) (atom (slice_index text (p + 1) * 256 + slice_index text (p + 2)), p + 3)
    (cond (slice_index text p == 2) (var (slice_index text (p + 1)), p + 2)
    (paired (read_within n text (p + 1)) (λ m. read_within n text m)))

-- the term that is read at p
unfoldable pub tree : List ℕ → ℕ → Term
tree text p = (read_within (length text) text p).0

-- the same, with its variables from the cell l on
abbrev pub term : List ℕ → ℕ → ℕ → Term
term text p l = shifted l (tree text p)

-- a term stands at p, and its variables from the cell l on are below n
pub record Stands (text : List ℕ) (n p l : ℕ) : Type 0 where
  pub end : ℕ
  pub spans : Spans text p (tree text p) end
  pub within : Within n (term text p l)

-- a term stands at p, and its own variables are below v
pub record Declares (text : List ℕ) (v p : ℕ) : Type 0 where
  pub end : ℕ
  pub spans : Spans text p (tree text p) end
  pub within : Within v (tree text p)

-- the bytes stand in the text from p on
abbrev pub Holds : List ℕ → ℕ → List ℕ → Type 0
Holds text p [] = Unit {0}
Holds text p (b ∷ bs) = (p < length text) × (slice_index text p ≡ b) × Holds text (p + 1) bs
