-- Rules written one after the other. Assumes nothing.
use Rattle.std.proofs.Common.{◌≡◌, ℕ, zero, suc, ◌+◌, ◌<◌, ◌≤◌, List, [], ◌∷◌, ◌++◌, length, get_or, take, drop, sym, refl, ap, ◌∙◌, ap₂, append_assoc, append-nil, arith, length-append}
use lib.Seq.{paste}
use Rattle.std.proofs.lemmas.List.{take_more, take_at, drop_at, drop-drop, take_all}
use Rattle.grammar.specs.Texts.{total}
use Rattle.grammar.proofs.Fitting.{total_push}
use Rattle.books.specs.Writing.{joined, book_of, book_size}

pub joined_length : (ts : List (List ℕ)) → length (joined ts) ≡ total ts
joined_length [] = refl
joined_length (t ∷ ts) = length-append t (joined ts) ∙ ap (λ n. length t + n) (joined_length ts)

pub book_length : (ts : List (List ℕ)) → length (book_of ts) ≡ book_size ts
book_length ts = omega (arith, joined_length ts)

pub joined_push : (ts : List (List ℕ)) (t : List ℕ) → joined (ts ++ t ∷ []) ≡ joined ts ++ t
joined_push [] t = append-nil t
joined_push (u ∷ ts) t = ap (λ l. u ++ l) (joined_push ts t) ∙ sym (append_assoc u (joined ts) t)

module _ (ts : List (List ℕ)) (i : ℕ) (l : i < length ts) where
  -- a rule more
  pub joined_more : joined (take (i + 1) ts) ≡ joined (take i ts) ++ get_or ts i []
  joined_more = ap joined (take_more ts i [] l) ∙ joined_push (take i ts) (get_or ts i [])

  pub total_more : total (take (i + 1) ts) ≡ total (take i ts) + length (get_or ts i [])
  total_more = ap total (take_more ts i [] l) ∙ total_push (take i ts) (get_or ts i [])

-- the first rules have no more bytes than all
pub total_part : (i : ℕ) (ts : List (List ℕ)) → total (take i ts) ≤ total ts
total_part zero ts = omega arith
total_part (suc i) [] = omega arith
total_part (suc i) (t ∷ ts) = omega (arith, total_part i ts)

-- what is laid after a front that stands at the start of a buffer
pub laid : (front t out : List ℕ) (p : ℕ) → length front ≡ p → p + length t ≤ length out
    → paste (front ++ drop p out) p t (length t) ≡ (front ++ t) ++ drop (p + length t) out
laid front t out p e l =
    ap₂ (λ a b. a ++ take (length t) t ++ b) (take_at front (drop p out) p e) after
    ∙ ap (λ x. front ++ x ++ drop (p + length t) out) (take_all (length t) t (omega arith))
  where
    after : drop (p + length t) (front ++ drop p out) ≡ drop (p + length t) out
    after = sym (drop-drop (length t) p (front ++ drop p out)) ∙ ap (drop (length t)) (drop_at front (drop p out) p e) ∙ drop-drop (length t) p out
