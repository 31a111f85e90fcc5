-- Digits read one byte at a time, and written as the library writes them. Assumes nothing.
use Rattle.std.proofs.Common.{◌≡◌, ℕ, zero, suc, ◌+◌, ◌-◌, ◌*◌, ◌/◌, ◌%◌, ◌<◌, ◌≤◌, ◌==◌, Bool, true, ◌&&◌, List, [], ◌∷◌, ◌++◌, length, get_or, slice_index, take, drop, Some, None, Option, inl, inr, refl, sym, ap, ◌∙◌, append_assoc, append-nil, arith, w8, Fits}
use Rattle.std.proofs.lemmas.Bool.{and_parts, cases_lt, eqb-true}
use Rattle.std.proofs.lemmas.List.{take_rest}
use Rattle.hex.specs.Hex.{encode_with, encode_upper, upper_digits}
use Rattle.hexadecimal.specs.Digits.{digit_value, digit_letter, with_byte, decoded, encoded}

-- ── reading ──

-- the bytes so far, and then what the rest spells
abbrev pub onward : List ℕ → Option (List ℕ) → Option (List ℕ)
onward done (Some bs) = Some (done ++ bs)
onward done None = None

pub starts : (cs : List ℕ) → onward [] (decoded cs) ≡ decoded cs
starts cs = by (decoded cs)
  where
    by : (o : Option (List ℕ)) → onward [] o ≡ o
    by (Some bs) = refl
    by None = refl

push : (done : List ℕ) (h l : ℕ) (o : Option (List ℕ)) → onward (done ++ (h * 16 + l) ∷ []) o ≡ onward done (with_byte (Some h) (Some l) o)
push done h l (Some bs) = ap Some (append_assoc done ((h * 16 + l) ∷ []) bs)
push done h l None = refl

-- the first two letters and what follows them
front : (cs : List ℕ) → 2 ≤ length cs → decoded cs ≡ with_byte (digit_value (get_or cs 0 0)) (digit_value (get_or cs 1 0)) (decoded (drop 2 cs))
front [] l = absurd (omega arith)
front (c ∷ []) l = absurd (omega arith)
front (c ∷ d ∷ cs) l = refl

pub one_more : (done cs : List ℕ) (h l : ℕ) → 2 ≤ length cs → Some h ≡ digit_value (get_or cs 0 0) → Some l ≡ digit_value (get_or cs 1 0)
    → onward (done ++ (h * 16 + l) ∷ []) (decoded (take (length cs - 2) (drop 2 cs))) ≡ onward done (decoded cs)
one_more done cs h l n i j =
    ap (λ xs. onward (done ++ (h * 16 + l) ∷ []) (decoded xs)) (take_rest cs 2)
    ∙ push done h l (decoded (drop 2 cs))
    ∙ ap (onward done) (ap (λ x. with_byte x (Some l) (decoded (drop 2 cs))) i ∙ ap (λ x. with_byte (digit_value (get_or cs 0 0)) x (decoded (drop 2 cs))) j ∙ sym (front cs n))

pub no_high : (done cs : List ℕ) → 2 ≤ length cs → None ≡ digit_value (get_or cs 0 0) → None ≡ onward done (decoded cs)
no_high done cs n i = ap (λ x. onward done (with_byte x (digit_value (get_or cs 1 0)) (decoded (drop 2 cs)))) i ∙ ap (onward done) (sym (front cs n))

pub no_low : (done cs : List ℕ) (h : ℕ) → 2 ≤ length cs → Some h ≡ digit_value (get_or cs 0 0) → None ≡ digit_value (get_or cs 1 0) → None ≡ onward done (decoded cs)
no_low done cs h n i j =
    ap (λ x. onward done (with_byte (Some h) x (decoded (drop 2 cs)))) j
    ∙ ap (λ x. onward done (with_byte x (digit_value (get_or cs 1 0)) (decoded (drop 2 cs)))) i
    ∙ ap (onward done) (sym (front cs n))

pub ends : (done cs : List ℕ) → length cs ≡ 0 → Some done ≡ onward done (decoded cs)
ends done [] e = ap Some (sym (append-nil done))
ends done (c ∷ cs) e = absurd (omega arith)

none_more : (x y : Option ℕ) → with_byte x y None ≡ None
none_more (Some h) (Some l) = refl
none_more (Some h) None = refl
none_more None y = refl

-- Where the number of letters is odd, one is left over.
pub ends_odd : (cs : List ℕ) → (length cs % 2 ≡ 0 → ⊥) → None ≡ decoded cs
ends_odd [] n = absurd (n refl)
ends_odd (c ∷ []) n = refl
ends_odd (h ∷ l ∷ cs) n = sym (none_more (digit_value h) (digit_value l)) ∙ ap (with_byte (digit_value h) (digit_value l)) (ends_odd cs (λ e. n (omega (arith, e))))

-- ── a test of all numbers below a bound, which computes ──

abbrev all_below : (ℕ → Bool) → ℕ → Bool
all_below p zero = true
all_below p (suc n) = p n && all_below p n

at : (p : ℕ → Bool) (n k : ℕ) → all_below p n ≡ true → k < n → p k ≡ true
at p zero k h l = absurd (omega arith)
at p (suc n) k h l =
    let parts = and_parts (p n) (all_below p n) h in
    elim (cases_lt k n) [
      | inl below ↦ at p n k parts.1 below
      | inr top ↦ let e : k ≡ n = omega arith in ap p e ∙ parts.0
    ]

-- ── writing ──

abbrev AreBytes : List ℕ → Type 0
AreBytes bs = (i : ℕ) → Fits w8 (get_or bs i 0)

letter : (k : ℕ) → k < 16 → slice_index upper_digits k ≡ digit_letter k
letter k l = eqb-true _ _ (at (λ n. slice_index upper_digits n == digit_letter n) 16 k refl l)

pub written : (bs : List ℕ) → AreBytes bs → encode_upper bs ≡ encoded bs
unfolding encode_with
written [] a = refl
written (b ∷ bs) a =
    let small : b < 256 = (a 0).fits in
    λ k. letter (b / 16) (omega arith) k ∷ letter (b % 16) (omega arith) k ∷ written bs (λ i. a (suc i)) k
