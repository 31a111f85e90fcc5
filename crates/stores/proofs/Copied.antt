-- Copying the rules of a store. Assumes nothing.
use Rattle.std.proofs.Common.{◌≡◌, ℕ, ◌+◌, ◌<◌, ◌≤◌, Bool, true, false, cond, ltb, leb, List, [], ◌∷◌, ◌++◌, length, get_or, take, drop, set, Some, None, Ok, Err, Result, sym, refl, ap, ◌∙◌, ap₂, ⊎_elim, append_assoc, add-one, arith, length-append}
use lib.Seq.{paste, paste-zero, paste-suc}
use Rattle.std.proofs.lemmas.List.{take_all, drop-set-lt, length_push, get_or_at, append-nil}
use Rattle.std.proofs.lemmas.Bool.{lt-ltb, ltb-true, leb-true, le-leb, lt-leb, cases_lt}
use Rattle.grammar.specs.Asking.{ask}
use Rattle.grammar.specs.Items.{most_rules, most_bytes}
use Rattle.grammar.proofs.Fitting.{fit_at, fit_short}
use Rattle.grammar.proofs.Framed.{asked}
use Rattle.grammar.specs.Texts.{all_fit}
use Rattle.books.specs.declared.faults.WriteFault.{WriteFault}
use Rattle.books.specs.declared.faults.WriteFault.TheVariants.{Rules, Bytes, Room}
use Rattle.books.specs.Writing.{book_of, book_size, sized, fitted, written, filled, after_writing}
use Rattle.books.proofs.Written.{book_length, joined_more, total_more, total_part, laid}
use Rattle.stores.specs.Answers.{count_of, size_of, byte_at, byte_of, bytes_of}
use Rattle.stores.proofs.Piled.{there, not_there}

-- ── what is asked of a rule that is there ──

module _ (ts : List (List ℕ)) (i : ℕ) (l : i < count_of ts) where
  pub size_is : size_of ts i ≡ Some (length (get_or ts i []))
  size_is = there (λ t. Some (length t)) ts i l

  pub byte_some : (j b : ℕ) → Some b ≡ byte_of ts i j → (j < length (get_or ts i [])) × (b ≡ get_or (get_or ts i []) j 0)
  byte_some j b e = by (ltb j (length (get_or ts i []))) refl (e ∙ there (byte_at j) ts i l)
    where
      by : (t : Bool) → ltb j (length (get_or ts i [])) ≡ t → Some b ≡ cond t (Some (get_or (get_or ts i []) j 0)) None → (j < length (get_or ts i [])) × (b ≡ get_or (get_or ts i []) j 0)
      by true q e = (ltb-true j (length (get_or ts i [])) q, (let same : b ≡ get_or (get_or ts i []) j 0 = cc in same))
      by false q e = let z : ◌≡◌ {A = ℕ} 0 1 = cc in absurd (omega arith)

-- a byte of a fit rule is one of the first 517
pub byte_short : (ts : List (List ℕ)) (i j b : ℕ) → all_fit ts ≡ true → Some b ≡ byte_of ts i j → j < 517
byte_short ts i j b f e = ⊎_elim inside outside (cases_lt i (count_of ts))
  where
    inside : i < count_of ts → j < 517
    inside l = omega (arith, (byte_some ts i l j b e).0, fit_short (get_or ts i []) (fit_at ts i f (omega arith)))

    outside : count_of ts ≤ i → j < 517
    outside l = let both = e ∙ not_there (byte_at j) ts i l in let z : ◌≡◌ {A = ℕ} 0 1 = cc in absurd (omega arith)

-- the bytes of a rule that is there
pub bytes_there : (ts : List (List ℕ)) (i : ℕ) → i < count_of ts → bytes_of ts i ≡ get_or ts i []
bytes_there ts i l = ap (λ b. cond b (get_or ts i []) []) (lt-ltb i (count_of ts) l)

-- as far as a rule t was copied to a place: the bytes in front are there, and those behind are left
pub record Copying (out t : List ℕ) (place : ℕ) (front behind : List ℕ) (end : ℕ) (now : List ℕ) : Type 0 where
  pub parts : t ≡ front ++ behind
  pub reached : end ≡ place + length front
  pub laid : now ≡ paste out place t (length front)

pub copying_none : (out t behind : List ℕ) (place : ℕ) → behind ≡ t → Copying out t place [] behind place out
copying_none out t behind place e = record { parts = sym e; reached = omega arith; laid = paste-zero out place t }

module _ (out t : List ℕ) (place : ℕ) (front behind : List ℕ) (end : ℕ) (now : List ℕ) (c : Copying out t place front behind end now) where
  module _ (x : ℕ) (rest : List ℕ) (e : behind ≡ x ∷ rest) where
    pub copying_inside : place + length t ≤ length out → end < length out
    copying_inside room = omega (arith, c.reached, ap length c.parts, length-append front behind, ap length e)

    pub copying_more : place + length t ≤ length out → Copying out t place (front ++ x ∷ []) rest (end + 1) (set now end x)
    copying_more room =
        let whole : t ≡ front ++ x ∷ rest = c.parts ∙ ap (λ l. front ++ l) e in
        let there : length front < length t = omega (arith, ap length whole, length-append front (x ∷ rest)) in
        let long : length front + 1 ≡ length (front ++ x ∷ []) = sym (length_push front x) in
        let read : x ≡ get_or t (length front) 0 = sym (ap (λ l. get_or l (length front) 0) whole ∙ get_or_at front x rest 0 (length front) refl) in
        record {
          parts = whole ∙ sym (append_assoc front (x ∷ []) rest);
          reached = omega (arith, c.reached, long);
          laid =
              ap₂ (λ n y. set now n y) c.reached read
              ∙ ap (λ o. set o (place + length front) (get_or t (length front) 0)) c.laid
              ∙ paste-suc out place t (length front) 0 (omega arith) there
              ∙ ap (paste out place t) (sym (add-one (length front)) ∙ long);
        }

  pub copied : behind ≡ [] → (end ≡ place + length t) × (now ≡ paste out place t (length t))
  copied e =
      let whole : t ≡ front = c.parts ∙ ap (λ l. front ++ l) e ∙ append-nil front in (
        c.reached ∙ ap (λ l. place + length l) (sym whole),
        c.laid ∙ ap (λ l. paste out place t (length l)) (sym whole),
      )

-- ── the length of the book ──

module _ (ts : List (List ℕ)) where
  pub size_more : (i : ℕ) → i < length ts → book_size (take i ts) + length (get_or ts i []) ≡ book_size (take (i + 1) ts)
  size_more i l = omega (arith, total_more ts i l)

  pub size_part : (i : ℕ) → i < length ts → book_size (take i ts) + length (get_or ts i []) ≤ book_size ts
  size_part i l = omega (arith, total_more ts i l, total_part (i + 1) ts)

  pub size_all : (n : ℕ) → length ts ≤ n → book_size (take n ts) ≡ book_size ts
  size_all n l = ap book_size (take_all n ts l)

  module _ (few : length ts ≤ most_rules) where
    sized_few : sized ts ≡ ask (leb (book_size ts) most_bytes) Bytes (Ok (book_size ts))
    sized_few = asked (leb (length ts) most_rules) Rules _ (le-leb (length ts) most_rules few)

    pub too_large : most_bytes < book_size ts → Err Bytes ≡ sized ts
    too_large m = sym (sized_few ∙ ap (λ b. ask b Bytes (Ok (book_size ts))) (lt-leb (book_size ts) most_bytes m))

    pub is_sized : book_size ts ≤ most_bytes → Ok (book_size ts) ≡ sized ts
    is_sized m = sym (sized_few ∙ ap (λ b. ask b Bytes (Ok (book_size ts))) (le-leb (book_size ts) most_bytes m))

-- a book has at most 1,024 rules where its size is told
pub few_rules : (ts : List (List ℕ)) (n : ℕ) → Ok n ≡ sized ts → (length ts ≤ most_rules) × (n ≡ book_size ts)
few_rules ts n e = by (leb (length ts) most_rules) (leb (book_size ts) most_bytes) refl e
  where
    by : (s t : Bool) → leb (length ts) most_rules ≡ s → Ok n ≡ ask s Rules (ask t Bytes (Ok (book_size ts))) → (length ts ≤ most_rules) × (n ≡ book_size ts)
    by true true q e = (leb-true (length ts) most_rules q, (let same : n ≡ book_size ts = cc in same))
    by true false q e = let z : ◌≡◌ {A = ℕ} 0 1 = cc in absurd (omega arith)
    by false t q e = let z : ◌≡◌ {A = ℕ} 0 1 = cc in absurd (omega arith)

-- ── the buffer ──

-- the world at the start
pub world_first : (o : List ℕ) → 2 ≤ length o → set (set o 0 0x11) 1 0 ≡ book_of [] ++ drop 2 (set (set o 0 0x11) 1 0)
world_first [] l = absurd (omega arith)
world_first (a ∷ []) l = absurd (omega arith)
world_first (a ∷ b ∷ o) l = refl

-- a rule more
pub rule_laid : (ts : List (List ℕ)) (out now after : List ℕ) (i place : ℕ) → i < length ts → place ≡ book_size (take i ts) → now ≡ book_of (take i ts) ++ drop place out
    → place + length (get_or ts i []) ≤ length out → after ≡ paste now place (get_or ts i []) (length (get_or ts i []))
    → after ≡ book_of (take (i + 1) ts) ++ drop (place + length (get_or ts i [])) out
rule_laid ts out now after i place l p e room h =
    let t = get_or ts i [] in
    h
    ∙ ap (λ o. paste o place t (length t)) e
    ∙ laid (book_of (take i ts)) t out place (book_length (take i ts) ∙ sym p) room
    ∙ ap (λ x. (0x11 ∷ 0 ∷ x) ++ drop (place + length t) out) (sym (joined_more ts i l))

-- the whole, over what stood there before the world
pub all_laid : (ts : List (List ℕ)) (out now : List ℕ) (n place : ℕ) → length ts ≤ n → place ≡ book_size (take n ts) → now ≡ book_of (take n ts) ++ drop place (set (set out 0 0x11) 1 0)
    → now ≡ book_of ts ++ drop (book_size ts) out
all_laid ts out now n place l p e =
    let all = take_all n ts l in
    let size : place ≡ book_size ts = p ∙ ap book_size all in
    e
    ∙ ap₂ (λ us m. book_of us ++ drop m (set (set out 0 0x11) 1 0)) all size
    ∙ ap (λ x. book_of ts ++ x) (drop-set-lt (book_size ts) (set out 0 0x11) 1 0 (omega arith) ∙ drop-set-lt (book_size ts) out 0 0x11 (omega arith))

-- ── what writing returns and leaves ──

module _ (ts : List (List ℕ)) (out : List ℕ) where
  pub no_room : (n : ℕ) → Ok n ≡ sized ts → length out < n → (Err Room ≡ written ts (length out)) × (out ≡ after_writing ts out)
  no_room n e l =
      let w : written ts (length out) ≡ Err Room = ap (fitted (length out)) (sym e) ∙ ap (λ b. ask b Room (Ok n)) (lt-leb n (length out) l) in
      (sym w, ap (λ r. filled r (book_of ts) out) (sym w))

  pub wrote : (n : ℕ) (after : List ℕ) → Ok n ≡ sized ts → n ≤ length out → after ≡ book_of ts ++ drop (book_size ts) out → (Ok n ≡ written ts (length out)) × (after ≡ after_writing ts out)
  wrote n after e l h =
      let w : written ts (length out) ≡ Ok n = ap (fitted (length out)) (sym e) ∙ ap (λ b. ask b Room (Ok n)) (le-leb n (length out) l) in
      (sym w, h ∙ ap (λ m. book_of ts ++ drop m out) (sym (few_rules ts n e).1) ∙ ap (λ r. filled r (book_of ts) out) (sym w))

  pub not_sized : (r : Result ℕ WriteFault) (x y : WriteFault) → r ≡ Err x → x ≡ y → Err y ≡ sized ts → (r ≡ written ts (length out)) × (out ≡ after_writing ts out)
  not_sized r x y i j e =
      let w : written ts (length out) ≡ Err y = ap (fitted (length out)) (sym e) in
      (i ∙ ap Err j ∙ sym w, ap (λ r. filled r (book_of ts) out) (sym w))
