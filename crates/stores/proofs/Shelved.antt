-- What a table of places says of a book. Assumes nothing.
use Rattle.std.proofs.Common.{◌≡◌, ℕ, ◌+◌, ◌*◌, ◌<◌, ◌≤◌, true, List, [], length, get_or, take, drop, Some, None, Ok, Err, Result, sym, refl, ap, ◌∙◌, subst, ⊎_elim, arith, length-take}
use Rattle.std.proofs.lemmas.Bool.{cases_lt}
use Rattle.std.proofs.lemmas.Option.{slice_get-get_or, slice_get_within, get_or_from_slice_get}
use Rattle.std.specs.List.{slice_get}
use Rattle.grammar.specs.declared.faults.BookFault.{BookFault}
use Rattle.grammar.specs.Items.{Item, book}
use Rattle.grammar.specs.Encodings.{book_bytes}
use Rattle.grammar.specs.Texts.{all_bytes, all_fit, texts_of}
use Rattle.grammar.proofs.Fitting.{bytes_known, fit_at, fit_short}
use Rattle.grammar.proofs.Rows.{books_inverse}
use Rattle.books.specs.Begins.{rule_places, item_texts}
use Rattle.books.proofs.Begun.{Stands, places_length, stands, size_there}
use Rattle.reading.specs.Views.{seen}
use Rattle.stores.specs.Answers.{count_of, text_of}
use Rattle.stores.proofs.Piled.{there, not_there}

-- the rule with a number, in a list that is not too long
pub text_here : (ts : List (List ℕ)) (i : ℕ) → length ts ≤ 1024 → i < length ts → Some (get_or ts i []) ≡ text_of ts i
text_here ts i few l = sym (there (λ t. Some t) ts i (omega arith))

pub text_gone : (ts : List (List ℕ)) (i : ℕ) → length ts ≤ i → None ≡ text_of ts i
text_gone ts i l = sym (not_there (λ t. Some t) ts i (omega arith))

-- nothing is got past the end of a list
pub past_end : (xs : List ℕ) (i : ℕ) → None ≡ slice_get xs i → length xs ≤ i
past_end xs i e = ⊎_elim (λ l. let two = e ∙ slice_get-get_or xs i 0 l in let z : ◌≡◌ {A = ℕ} 0 1 = cc in absurd (omega arith)) (λ l. l) (cases_lt i (length xs))

-- a rule that is shown has at most 517 bytes
pub text_short : (ts : List (List ℕ)) (i : ℕ) (t : List ℕ) → all_fit ts ≡ true → Some t ≡ text_of ts i → length t ≤ 517
text_short ts i t f e = ⊎_elim inside outside (cases_lt i (count_of ts))
  where
    inside : i < count_of ts → length t ≤ 517
    inside l =
        let both = e ∙ there (λ t. Some t) ts i l in
        let same : t ≡ get_or ts i [] = cc in
        subst (λ x. length x ≤ 517) (sym same) (fit_short (get_or ts i []) (fit_at ts i f (omega arith)))

    outside : count_of ts ≤ i → length t ≤ 517
    outside l = let both = e ∙ not_there (λ t. Some t) ts i l in let z : ◌≡◌ {A = ℕ} 0 1 = cc in absurd (omega arith)

-- ── the places of the rules of a book ──

-- a book that was read
pub record Opened (bs : List ℕ) (places : List ℕ) : Type 0 where
  pub is : List Item
  pub read : book bs ≡ Ok is
  pub placed : places ≡ rule_places 0 is

pub opened : (bs : List ℕ) (places : List ℕ) → Ok places ≡ seen (rule_places 0) (book bs) → Opened bs places
opened bs places e = by (book bs) refl e
  where
    by : (r : Result (List Item) BookFault) → book bs ≡ r → Ok places ≡ seen (rule_places 0) r → Opened bs places
    by (Ok is) q e = record { is = is; read = q; placed = (let o : places ≡ rule_places 0 is = cc in o) }
    by (Err x) q e = let z : ◌≡◌ {A = ℕ} 0 1 = cc in absurd (omega arith)

module _ (bs places : List ℕ) (known : all_bytes bs ≡ true) (e : Ok places ≡ seen (rule_places 0) (book bs)) (few : length places ≤ 1024) where
  o : Opened bs places
  o = opened bs places e

  texts : texts_of (book bs) ≡ item_texts o.is
  texts = ap texts_of o.read

  count : length places ≡ length (item_texts o.is)
  count = ap length o.placed ∙ places_length 0 o.is

  pub count_is : length places ≡ count_of (texts_of (book bs))
  count_is = omega (arith, count, few, ap length texts)

  pub absent : (i : ℕ) → None ≡ slice_get places i → None ≡ text_of (texts_of (book bs)) i
  absent i n = text_gone (texts_of (book bs)) i (omega (arith, past_end places i n, count, ap length texts))

  -- the rule with a number, and where it stands
  pub record There (i p : ℕ) : Type 0 where
    pub it : List ℕ
    pub long : 5 ≤ length it
    pub inside : p + length it ≤ length bs
    pub by_header : 5 + (get_or bs (p + 3) 0 * 256 + get_or bs (p + 4) 0) ≡ length it
    pub part : take (length it) (drop p bs) ≡ it
    pub text : Some it ≡ text_of (texts_of (book bs)) i

  pub there_at : (i p : ℕ) → Some p ≡ slice_get places i → There i p
  there_at i p q =
      let l : i < length places = slice_get_within places i p (sym q) in
      let it = get_or (item_texts o.is) i [] in
      let in_list : i < length (item_texts o.is) = omega (arith, count) in
      let same = (books_inverse.only_encodings bs o.is (bytes_known bs known) o.read).1 in
      let place : get_or (rule_places 0 o.is) i 0 ≡ p = ap (λ l. get_or l i 0) (sym o.placed) ∙ get_or_from_slice_get places i p 0 (sym q) in
      let s = subst (λ x. Stands x p it) (sym same) (subst (λ n. Stands (book_bytes o.is) n it) place (stands [] o.is i in_list)) in
      let h = size_there bs p o.is i in_list s in
      record {
        it = it;
        long = h.1;
        inside = s.inside;
        by_header = h.0;
        part = s.part;
        text = text_here (item_texts o.is) i (omega (arith, count, few)) in_list ∙ ap (λ ts. text_of ts i) (sym texts);
      }

-- ── opening ──

-- what is open means the rules of the book
pub opens : (s : Result (List Item) BookFault) (l : List ℕ) → Ok l ≡ seen (rule_places 0) s → Ok (texts_of s) ≡ seen item_texts s
opens (Ok is) l e = refl
opens (Err x) l e = let z : ◌≡◌ {A = ℕ} 0 1 = cc in absurd (omega arith)

pub refused : {T : Type 0} (f : T → List (List ℕ)) (r : Result T BookFault) (s : Result (List Item) BookFault) (x y : BookFault) → r ≡ Err x → x ≡ y → Err y ≡ seen (rule_places 0) s → seen f r ≡ seen item_texts s
refused f r (Ok is) x y i j e = let z : ◌≡◌ {A = ℕ} 0 1 = cc in absurd (omega arith)
refused f r (Err w) x y i j e = let same : y ≡ w = cc in ap (seen f) (i ∙ ap Err (j ∙ same))

-- the places in use are few
pub few_begun : (n : ℕ) (places : List ℕ) → n ≤ 1024 → length (take n places) ≤ 1024
few_begun n places l = omega (arith, length-take n places)
