-- A book read to its end, item by item. Assumes nothing.
use Rattle.std.proofs.Common.{◌≡◌, ℕ, suc, ◌+◌, ◌-◌, ◌<◌, ◌≤◌, List, [], ◌∷◌, length, drop, true, Some, None, Ok, Err, Option, Result, sym, refl, ap, ◌∙◌, subst, arith, length-drop}
use Rattle.std.specs.Option.{is_some, option_map}
use Rattle.std.proofs.lemmas.List.{drop-drop}
use Rattle.grammar.specs.declared.faults.BookFault.{BookFault}
use Rattle.grammar.specs.Asking.{go}
use Rattle.grammar.specs.Items.{Item, world, rule, item, counts, with_item, items_past}
use Rattle.grammar.proofs.Places.{item_inside}
use Rattle.grammar.proofs.Rows.{one_more, no_more}
use Rattle.reading.specs.Views.{seen}
use Rattle.reading.specs.Books.{BookView, ItemView, first_item, shown_first, passed, counted, next_of, after_item, rule_count}

-- the rules of what is left of a book, with those before
abbrev pub rest_count : BookView → Result ℕ BookFault
rest_count b = seen (λ is. b.rules + rule_count is) (items_past b.rules 0 b.place (drop b.place b.bytes))

count_more : (n : ℕ) (i : Item) (r : Result (List Item) BookFault) → seen (λ is. n + rule_count is) (with_item i r) ≡ seen (λ is. n + counts i + rule_count is) r
count_more n (world w) (Ok is) = ap Ok (let same : n + rule_count is ≡ n + 0 + rule_count is = omega arith in same)
count_more n (rule x) (Ok is) = ap Ok (let same : n + suc (rule_count is) ≡ n + 1 + rule_count is = omega arith in same)
count_more n i (Err e) = refl

-- what the next item says of the rest
abbrev Goes : ℕ → ℕ → List ℕ → Result (Option (Item × ℕ)) BookFault → Type 0
Goes n p bs (Ok (Some i)) =
    (seen (λ is. n + rule_count is) (items_past n 0 p bs) ≡ seen (λ is. n + counts i.0 + rule_count is) (items_past (n + counts i.0) 0 (p + (1 + i.1)) (drop (1 + i.1) bs)))
    × (1 + i.1 ≤ length bs)
Goes n p bs (Ok None) = bs ≡ []
Goes n p bs (Err e) = items_past n 0 p bs ≡ Err e

goes : (n p : ℕ) (bs : List ℕ) → Goes n p bs (first_item n p bs)
goes n p [] = refl
goes n p (b ∷ bs) = by (item n p b bs) refl
  where
    by : (r : Result (Item × ℕ) BookFault) → item n p b bs ≡ r → Goes n p (b ∷ bs) (go r (λ e. e) (λ i. Ok (Some i)))
    by (Ok (i, k)) e =
        let inside = item_inside n p b bs i k e in
        let longer : suc k ≡ 1 + k = omega arith in (
          ap (seen (λ is. n + rule_count is)) (one_more n p b bs i k inside e)
              ∙ count_more n i (items_past (n + counts i) 0 (p + suc k) (drop k bs))
              ∙ ap (λ m. seen (λ is. n + counts i + rule_count is) (items_past (n + counts i) 0 (p + m) (drop m (b ∷ bs)))) longer,
          omega arith,
        )
    by (Err x) e = no_more n p b bs x e

-- a result of `item`, and what it says of the rest
abbrev Follows : BookView → Result (Option ItemView) BookFault → Type 0
Follows b (Ok (Some v)) = (rest_count (after_item b) ≡ rest_count b) × (length b.bytes - (after_item b).place < length b.bytes - b.place)
Follows b (Ok None) = rest_count b ≡ Ok b.rules
Follows b (Err e) = rest_count b ≡ Err e

follows : (b : BookView) → Follows b (shown_first b.place (next_of b))
follows b = by (next_of b) refl (goes b.rules b.place (drop b.place b.bytes))
  where
    by : (r : Result (Option (Item × ℕ)) BookFault) → next_of b ≡ r → Goes b.rules b.place (drop b.place b.bytes) r → Follows b (shown_first b.place r)
    by (Ok (Some i)) e g = (
      ap (λ r. rest_count (record { bytes = b.bytes; place = b.place + passed r; rules = b.rules + counted r })) e
          ∙ ap (λ l. seen (λ is. b.rules + counts i.0 + rule_count is) (items_past (b.rules + counts i.0) 0 (b.place + (1 + i.1)) l)) (sym (drop-drop (1 + i.1) b.place b.bytes))
          ∙ sym g.0,
      omega (arith, ap (λ r. b.place + passed r) e, g.1, length-drop b.place b.bytes),
    )
    by (Ok None) e g = ap (λ l. seen (λ is. b.rules + rule_count is) (items_past b.rules 0 b.place l)) g ∙ ap Ok (let same : b.rules + 0 ≡ b.rules = omega arith in same)
    by (Err x) e g = ap (seen (λ is. b.rules + rule_count is)) g

pub told : (b : BookView) (r : Result (Option ItemView) BookFault) → r ≡ shown_first b.place (next_of b) → Follows b r
told b r e = subst (Follows b) (sym e) (follows b)

-- ── for the code ──

-- an item was read, and the book stands after it
pub goes_on : {A : Type 0} (f : A → ItemView) (b d : BookView) (o : Option A) → true ≡ is_some o → Ok (option_map f o) ≡ shown_first b.place (next_of b) → d ≡ after_item b
    → (rest_count d ≡ rest_count b) × (length d.bytes - d.place < length b.bytes - b.place)
goes_on f b d (Some x) t e k =
    let h = told b (Ok (Some (f x))) e in
    (ap rest_count k ∙ h.0, subst (λ m. m < length b.bytes - b.place) (ap (λ x. length x.bytes - x.place) (sym k)) h.1)
goes_on f b d None t e k = cc
