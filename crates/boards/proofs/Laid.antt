-- The rules in the table of a board. Assumes nothing.
use Rattle.std.proofs.Common.{◌≡◌, ℕ, zero, suc, ◌+◌, ◌-◌, ◌<◌, ◌≤◌, List, [], ◌∷◌, ◌++◌, length, get_or, take, drop, map, sym, refl, ap, ◌∙◌, subst, ap₂, append_assoc, append-nil, add-one, arith, length-append, length-drop, length-take}
use Rattle.std.proofs.Math.Seq.{take-append-add, drop-append-add}
use borrow.Rule.Slice.PartMut.{put_mid}
use Rattle.std.proofs.lemmas.List.{length-map, take_at, drop_at, drop_all, take_rest, drop-drop, get_or-drop}
use Rattle.std.specs.List.{refill, remove}
use Rattle.grammar.specs.Texts.{total}
use Rattle.boards.specs.Tables.{cut, ends_from, Held}
use Rattle.books.specs.Writing.{joined}
use Rattle.books.proofs.Written.{joined_length, joined_push, total_more, total_part}

-- ── the rules of a table ──

-- where rules are laid from p on, cutting at their ends gives them back
cut_laid : (p : ℕ) (ts : List (List ℕ)) (bs : List ℕ) → drop p bs ≡ joined ts → cut p (ends_from p ts) bs ≡ ts
cut_laid p [] bs e = refl
cut_laid p (t ∷ ts) bs e =
    let size : p + length t - p ≡ length t = omega arith in
    ap₂ (λ a b. a ∷ b)
    (ap₂ (λ n l. take n l) size e ∙ take_at t (joined ts) (length t) refl)
    (cut_laid (p + length t) ts bs (sym (drop-drop (length t) p bs) ∙ ap (drop (length t)) e ∙ drop_at t (joined ts) (length t) refl))

-- the rules that are held are those that cutting gives
pub cut_held : (ends bytes : List ℕ) (ts : List (List ℕ)) → Held ends bytes ts → cut 0 ends bytes ≡ ts
cut_held ends bytes ts h = ap (λ es. cut 0 es bytes) h.0 ∙ cut_laid 0 ts bytes h.1

pub held_again : (ends bytes : List ℕ) (ts : List (List ℕ)) → Held ends bytes ts → Held ends bytes (cut 0 ends bytes)
held_again ends bytes ts h = subst (Held ends bytes) (sym (cut_held ends bytes ts h)) h

-- where a rule begins: where the one before it ends
begin_is : (p : ℕ) (ts : List (List ℕ)) (i : ℕ) → i ≤ length ts → get_or (p ∷ ends_from p ts) i 0 ≡ p + total (take i ts)
begin_is p ts zero l = omega arith
begin_is p [] (suc i) l = absurd (omega arith)
begin_is p (t ∷ ts) (suc i) l = let k = begin_is (p + length t) ts i (omega arith) in omega (arith, k)

ends_length : (p : ℕ) (ts : List (List ℕ)) → length (ends_from p ts) ≡ length ts
ends_length p [] = refl
ends_length p (t ∷ ts) = ap suc (ends_length (p + length t) ts)

ends_push : (p : ℕ) (ts : List (List ℕ)) (t : List ℕ) → ends_from p (ts ++ t ∷ []) ≡ ends_from p ts ++ (p + total ts + length t) ∷ []
ends_push p [] t = let z : p + length t ≡ p + 0 + length t = omega arith in ap (λ n. n ∷ []) z
ends_push p (u ∷ ts) t =
    let z : p + length u + total ts + length t ≡ p + (length u + total ts) + length t = omega arith in
    ap (λ l. (p + length u) ∷ l) (ends_push (p + length u) ts t ∙ ap (λ n. ends_from (p + length u) ts ++ n ∷ []) z)

-- ── a rule ──

more_by_one : (ts : List (List ℕ)) (i : ℕ) → i < length ts → total (take (suc i) ts) ≡ total (take i ts) + length (get_or ts i [])
more_by_one ts i l = ap (λ k. total (take k ts)) (sym (add-one i)) ∙ total_more ts i l

-- its bytes stand between its begin and its end
part_of_joined : (ts : List (List ℕ)) (i : ℕ) → i < length ts → take (length (get_or ts i [])) (drop (total (take i ts)) (joined ts)) ≡ get_or ts i []
part_of_joined [] i l = absurd (omega arith)
part_of_joined (t ∷ ts) zero l = take_at t (joined ts) (length t) refl
part_of_joined (t ∷ ts) (suc i) l =
    ap (take (length (get_or ts i []))) (drop-append-add t (joined ts) (total (take i ts))) ∙ part_of_joined ts i (omega arith)

-- ── a rule less ──

joined_without : (ts : List (List ℕ)) (i : ℕ) → i < length ts → take (total (take i ts)) (joined ts) ++ drop (total (take (suc i) ts)) (joined ts) ≡ joined (take i ts ++ drop (suc i) ts)
joined_without [] i l = absurd (omega arith)
joined_without (t ∷ ts) zero l = let z : length t ≡ length t + 0 = omega arith in drop_at t (joined ts) (length t + 0) z
joined_without (t ∷ ts) (suc i) l =
    ap₂ (λ a b. a ++ b) (take-append-add t (joined ts) (total (take i ts))) (drop-append-add t (joined ts) (total (take (suc i) ts)))
    ∙ append_assoc t (take (total (take i ts)) (joined ts)) (drop (total (take (suc i) ts)) (joined ts))
    ∙ ap (λ l. t ++ l) (joined_without ts i (omega arith))

-- ends that are so many bytes less
lowered : (p s : ℕ) (ts : List (List ℕ)) → map (λ e. e - s) (ends_from (p + s) ts) ≡ ends_from p ts
lowered p s [] = refl
lowered p s (t ∷ ts) =
    let here : p + s + length t - s ≡ p + length t = omega arith in
    let there : p + s + length t ≡ p + length t + s = omega arith in
    ap₂ (λ a b. a ∷ b) here (ap (λ q. map (λ e. e - s) (ends_from q ts)) there ∙ lowered (p + length t) s ts)

ends_without : (p : ℕ) (ts : List (List ℕ)) (i : ℕ) → i < length ts
    → take i (ends_from p ts) ++ map (λ e. e - length (get_or ts i [])) (drop (suc i) (ends_from p ts)) ≡ ends_from p (take i ts ++ drop (suc i) ts)
ends_without p [] i l = absurd (omega arith)
ends_without p (t ∷ ts) zero l = lowered p (length t) ts
ends_without p (t ∷ ts) (suc i) l = ap (λ es. (p + length t) ∷ es) (ends_without (p + length t) ts i (omega arith))

-- ends of later rules stand at least so far
ends_above : (p : ℕ) (ts : List (List ℕ)) (k : ℕ) → k < length ts → p ≤ get_or (ends_from p ts) k 0
ends_above p [] k l = absurd (omega arith)
ends_above p (t ∷ ts) zero l = omega arith
ends_above p (t ∷ ts) (suc k) l = let a = ends_above (p + length t) ts k (omega arith) in omega (arith, a)

ends_later : (p : ℕ) (ts : List (List ℕ)) (i k : ℕ) → i < length ts → suc i + k < length ts → length (get_or ts i []) ≤ get_or (ends_from p ts) (suc i + k) 0
ends_later p [] i k l m = absurd (omega arith)
ends_later p (t ∷ ts) zero k l m =
    let same : 1 + k ≡ suc k = omega arith in
    let a = ends_above (p + length t) ts k (omega arith) in
    subst (λ n. length t ≤ get_or ((p + length t) ∷ ends_from (p + length t) ts) n 0) (sym same) (omega (arith, a))
ends_later p (t ∷ ts) (suc i) k l m =
    let same : suc (suc i) + k ≡ suc (suc i + k) = omega arith in
    subst (λ n. length (get_or ts i []) ≤ get_or ((p + length t) ∷ ends_from (p + length t) ts) n 0) (sym same)
    (ends_later (p + length t) ts i k (omega arith) (omega arith))

-- the ends before the rule are the same when its own is out
begin_kept : (x : ℕ) (es : List ℕ) (i : ℕ) → get_or (x ∷ remove es i) i 0 ≡ get_or (x ∷ es) i 0
begin_kept x es zero = refl
begin_kept x [] (suc i) = refl
begin_kept x (e ∷ es) (suc i) = begin_kept e es i

-- ── a table ──

module _ (es bs : List ℕ) (ts : List (List ℕ)) (h : Held es bs ts) where
  pub count_held : length es ≡ length ts
  count_held = ap length h.0 ∙ ends_length 0 ts

  pub size_held : length bs ≡ total ts
  size_held = ap length h.1 ∙ joined_length ts

  pub begin_held : (i : ℕ) → i ≤ length ts → get_or (0 ∷ es) i 0 ≡ total (take i ts)
  begin_held i l = let k = begin_is 0 ts i l in ap (λ l. get_or (0 ∷ l) i 0) h.0 ∙ (let z : get_or (0 ∷ ends_from 0 ts) i 0 ≡ total (take i ts) = omega (arith, k) in z)

  -- a rule more
  pub push_held : (t fs cs : List ℕ) → cs ≡ bs ++ t → fs ≡ es ++ length cs ∷ [] → Held fs cs (ts ++ t ∷ [])
  push_held t fs cs p q =
      let size : length cs ≡ 0 + total ts + length t = omega (arith, ap length p, length-append bs t, size_held) in (
        q ∙ ap₂ (λ l n. l ++ n ∷ []) h.0 size ∙ sym (ends_push 0 ts t),
        p ∙ ap (λ l. l ++ t) h.1 ∙ sym (joined_push ts t),
      )

  module _ (i : ℕ) (l : i < length ts) where
    -- where it begins and ends
    pub record Between (b e : ℕ) : Type 0 where
      pub size : e ≡ b + length (get_or ts i [])
      pub inside : e ≤ length bs
      pub text : take (e - b) (drop b bs) ≡ get_or ts i []

    pub between : (b e : ℕ) → b ≡ get_or (0 ∷ es) i 0 → e ≡ get_or es i 0 → Between b e
    between b e p q =
        let begins : b ≡ total (take i ts) = p ∙ begin_held i (omega arith) in
        let ends : e ≡ total (take (suc i) ts) = q ∙ begin_held (suc i) (omega arith) in
        let size : e ≡ b + length (get_or ts i []) = omega (arith, begins, ends, more_by_one ts i l) in
        let less : e - b ≡ length (get_or ts i []) = omega arith in
        record {
          size = size;
          inside = omega (arith, ends, size_held, total_part (suc i) ts);
          text = ap₂ (λ n m. take n (drop m bs)) less begins ∙ ap (λ l. take (length (get_or ts i [])) (drop (total (take i ts)) l)) h.1 ∙ part_of_joined ts i l;
        }

    -- a rule less: its end is out, the later ones are less by its bytes, and its bytes are out
    module _ (b e : ℕ) (p : b ≡ get_or (0 ∷ remove es i) i 0) (q : e ≡ get_or es i 0) where
      pub stands : Between b e
      stands = between b e (p ∙ begin_kept 0 es i) q

      -- the ends behind it
      behind : drop i (remove es i) ≡ drop (suc i) es
      behind = drop_at (take i es) (drop (suc i) es) i (omega (arith, length-take i es, count_held))

      pub later_held : (xs : List ℕ) → xs ≡ remove es i → (k : ℕ) → k < length (take (length xs - i) (drop i xs)) → e - b ≤ get_or (take (length xs - i) (drop i xs)) k 0
      later_held xs o k m =
          let all : take (length xs - i) (drop i xs) ≡ drop (suc i) es = take_rest xs i ∙ ap (drop i) o ∙ behind in
          let there : suc i + k < length ts = omega (arith, ap length all, length-drop (suc i) es, count_held) in
          let far = ends_later 0 ts i k l there in
          let read : get_or (take (length xs - i) (drop i xs)) k 0 ≡ get_or (ends_from 0 ts) (suc i + k) 0 =
          ap (λ l. get_or l k 0) all ∙ get_or-drop (suc i) es k 0 ∙ ap (λ l. get_or l (suc i + k) 0) h.0 in
          omega (arith, stands.size, read, far)

      pub remove_held : (ws xs ys cs : List ℕ) → ws ≡ remove es i → xs ≡ ws → ys ≡ map (λ f. f - (e - b)) (take (length xs - i) (drop i xs)) → cs ≡ take b bs ++ drop e bs
          → Held (refill (length ws) ws (put_mid i (length xs - i) xs ys)) cs (take i ts ++ drop (suc i) ts)
      remove_held ws xs ys cs g f r s =
          let o : xs ≡ remove es i = f ∙ g in
          let less : e - b ≡ length (get_or ts i []) = omega (arith, stands.size) in
          let begins : b ≡ total (take i ts) = p ∙ begin_kept 0 es i ∙ begin_held i (omega arith) in
          let ends : e ≡ total (take (suc i) ts) = q ∙ begin_held (suc i) (omega arith) in
          let all : take (length xs - i) (drop i xs) ≡ drop (suc i) es = take_rest xs i ∙ ap (drop i) o ∙ behind in
          let low : ys ≡ map (λ f. f - length (get_or ts i [])) (drop (suc i) es) = r ∙ ap₂ (λ n l. map (λ f. f - n) l) less all in
          let front : take i xs ≡ take i es = ap (take i) o ∙ take_at (take i es) (drop (suc i) es) i (omega (arith, length-take i es, count_held)) in
          let past : drop (length xs - i) (drop i xs) ≡ [] = drop_all (length xs - i) (drop i xs) (omega (arith, length-drop i xs)) in
          let whole : put_mid i (length xs - i) xs ys ≡ take i es ++ map (λ f. f - length (get_or ts i [])) (drop (suc i) es) =
          ap₂ (λ a b. a ++ b) front (ap₂ (λ a b. a ++ b) low past ∙ append-nil (map (λ f. f - length (get_or ts i [])) (drop (suc i) es))) in
          let long : length (put_mid i (length xs - i) xs ys) ≡ length (remove es i) =
          ap length whole ∙ length-append (take i es) (map (λ f. f - length (get_or ts i [])) (drop (suc i) es))
          ∙ ap (λ n. length (take i es) + n) (length-map (drop (suc i) es) (λ f. f - length (get_or ts i [])))
          ∙ sym (length-append (take i es) (drop (suc i) es)) in (
            ap (λ w. refill (length w) w (put_mid i (length xs - i) xs ys)) g
                ∙ take_at (put_mid i (length xs - i) xs ys) (drop (length (put_mid i (length xs - i) xs ys)) (remove es i)) (length (remove es i)) long
                ∙ whole
                ∙ ap (λ l. take i l ++ map (λ f. f - length (get_or ts i [])) (drop (suc i) l)) h.0
                ∙ ends_without 0 ts i l,
            s ∙ ap₂ (λ m n. take m bs ++ drop n bs) begins ends ∙ ap (λ l. take (total (take i ts)) l ++ drop (total (take (suc i) ts)) l) h.1 ∙ joined_without ts i l,
          )
