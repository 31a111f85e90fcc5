-- A book read item by item, with the places of its rules. Assumes nothing.
use Rattle.std.proofs.Common.{◌≡◌, ℕ, suc, ◌+◌, ◌-◌, ◌<◌, ◌≤◌, max, Bool, true, false, leb, List, [], ◌∷◌, ◌++◌, length, drop, Some, None, Ok, Err, Result, sym, refl, ap, ◌∙◌, ap₂, append_assoc, append-nil, arith, length-drop}
use Rattle.std.proofs.lemmas.List.{drop-drop, length_push}
use Rattle.std.proofs.lemmas.Bool.{leb-true}
use Rattle.grammar.specs.declared.faults.BookFault.{BookFault}
use Rattle.grammar.specs.declared.faults.BookFault.TheVariants.{TooLong}
use Rattle.grammar.specs.Asking.{ask, go}
use Rattle.grammar.specs.Items.{Item, world, rule, item, counts, with_item, items_past, book, most_bytes, most_rules}
use Rattle.grammar.specs.Encodings.{AllBytes, item_bytes}
use Rattle.grammar.proofs.Encoded.{bytes_drop}
use Rattle.grammar.proofs.Places.{item_inside}
use Rattle.grammar.proofs.Rows.{one_more, no_more}
use Rattle.reading.specs.Views.{seen}
use Rattle.reading.specs.Books.{BookView, ItemView, world_seen, rule_seen, item_shown, item_size, item_count, first_item, shown_first, passed, counted, next_of, after_item, opened}
use Rattle.reading.proofs.Sizes.{first, shown_size, shown_count}
use Rattle.books.specs.Begins.{rule_places}

-- the places of the rules of what is left of a book, after those in front
abbrev pub rest_places : BookView → List ℕ → Result (List ℕ) BookFault
rest_places b front = seen (λ is. front ++ rule_places b.place is) (items_past b.rules 0 b.place (drop b.place b.bytes))

-- ── an item ──

-- the place of an item, and what it adds to the places of rules
abbrev place_of : ItemView → ℕ
place_of (world_seen w p) = p
place_of (rule_seen r) = r.place

abbrev pub adds : ItemView → List ℕ
adds (world_seen w p) = []
adds (rule_seen r) = r.place ∷ []

shown_place : (p : ℕ) (i : Item) → place_of (item_shown p i) ≡ p
shown_place p (world w) = refl
shown_place p (rule r) = refl

places_more : (p : ℕ) (front : List ℕ) (i : Item) (r : Result (List Item) BookFault)
    → seen (λ is. front ++ rule_places p is) (with_item i r) ≡ seen (λ is. (front ++ adds (item_shown p i)) ++ rule_places (p + length (item_bytes i)) is) r
places_more p front (world w) (Ok is) = ap (λ l. Ok (l ++ rule_places (p + 2) is)) (sym (append-nil front))
places_more p front (rule x) (Ok is) = ap Ok (sym (append_assoc front (p ∷ []) (rule_places (p + length (item_bytes (rule x))) is)))
places_more p front i (Err e) = refl

row_more : (n p : ℕ) (bs : List ℕ) (i : Item) (k : ℕ) → first_item n p bs ≡ Ok (Some (i, k))
    → items_past n 0 p bs ≡ with_item i (items_past (n + counts i) 0 (p + (1 + k)) (drop (1 + k) bs))
row_more n p [] i k e = let z : ◌≡◌ {A = ℕ} 0 1 = cc in absurd (omega arith)
row_more n p (b ∷ bs) i k e = by (item n p b bs) refl e
  where
    by : (r : Result (Item × ℕ) BookFault) → item n p b bs ≡ r → go r (λ e. e) (λ i. Ok (Some i)) ≡ Ok (Some (i, k))
        → items_past n 0 p (b ∷ bs) ≡ with_item i (items_past (n + counts i) 0 (p + (1 + k)) (drop (1 + k) (b ∷ bs)))
    by (Ok x) q e =
        let same : x ≡ (i, k) = cc in
        let longer : suc k ≡ 1 + k = omega arith in
        let o = q ∙ ap Ok same in
        one_more n p b bs i k (item_inside n p b bs i k o) o
        ∙ ap (λ m. with_item i (items_past (n + counts i) 0 (p + m) (drop m (b ∷ bs)))) longer
    by (Err x) q e = let z : ◌≡◌ {A = ℕ} 0 1 = cc in absurd (omega arith)

-- an item was read, and the book stands after it
pub record Went (b d : BookView) (v : ItemView) : Type 0 where
  pub bytes : d.bytes ≡ b.bytes
  pub rules : d.rules ≡ b.rules + item_count v
  pub room : b.rules + item_count v ≤ max b.rules most_rules
  pub inside : b.place < length b.bytes
  pub less : length d.bytes - d.place < length b.bytes - b.place
  pub at : place_of v ≡ b.place
  pub rest : (front : List ℕ) → rest_places d (front ++ adds v) ≡ rest_places b front

pub went : (b d : BookView) (v : ItemView) → AllBytes b.bytes → Ok (Some v) ≡ shown_first b.place (next_of b) → d ≡ after_item b → Went b d v
went b d v a e k =
    let p = b.place in
    let bs = drop p b.bytes in
    let f = first b.rules p bs v (bytes_drop p b.bytes a) e in
    let past : passed (next_of b) ≡ 1 + f.k = ap passed f.is in
    let same : d ≡ record { bytes = b.bytes; place = p + (1 + f.k); rules = b.rules + counts f.i } =
    k ∙ ap (λ r. record { bytes = b.bytes; place = p + passed r; rules = b.rules + counted r }) f.is in
    let size : length (item_bytes f.i) ≡ 1 + f.k = sym (shown_size p f.i) ∙ ap item_size (sym f.shown) ∙ f.size in
    let long = length-drop p b.bytes in
    record {
      bytes = ap (λ x. x.bytes) same;
      rules = ap (λ x. x.rules) same ∙ ap (λ m. b.rules + m) (sym (shown_count p f.i) ∙ ap item_count (sym f.shown));
      room = f.room;
      inside = omega (arith, f.inside);
      less = omega (arith, f.inside, ap (λ x. length x.bytes) same, ap (λ x. x.place) same);
      at = ap place_of f.shown ∙ shown_place p f.i;
      rest = λ front.
          ap (λ x. rest_places x (front ++ adds v)) same
          ∙ ap (λ l. seen (λ is. (front ++ adds v) ++ rule_places (p + (1 + f.k)) is) (items_past (b.rules + counts f.i) 0 (p + (1 + f.k)) l)) (sym (drop-drop (1 + f.k) p b.bytes))
          ∙ ap₂ (λ w m. seen (λ is. (front ++ adds w) ++ rule_places (p + m) is) (items_past (b.rules + counts f.i) 0 (p + (1 + f.k)) (drop (1 + f.k) bs))) f.shown (sym size)
          ∙ sym (places_more p front f.i (items_past (b.rules + counts f.i) 0 (p + (1 + f.k)) (drop (1 + f.k) bs)))
          ∙ ap (seen (λ is. front ++ rule_places p is)) (sym (row_more b.rules p bs f.i f.k f.is));
    }

-- ── the whole ──

-- as far as the book was read, with the places of its rules so far
pub record Reading (bs : List ℕ) (b : BookView) (places : List ℕ) : Type 0 where
  pub rest : rest_places b places ≡ seen (rule_places 0) (book bs)
  pub same : b.bytes ≡ bs
  pub short : length bs ≤ most_bytes
  pub few : b.rules ≤ most_rules
  pub counted : length places ≡ b.rules

pub begin : (bs : List ℕ) (b : BookView) (places : List ℕ) → places ≡ [] → Ok b ≡ opened bs → Reading bs b places
begin bs b places n e = by (leb (length bs) most_bytes) refl e
  where
    by : (t : Bool) → leb (length bs) most_bytes ≡ t → Ok b ≡ ask t TooLong (Ok (record { bytes = bs; place = 0; rules = 0 })) → Reading bs b places
    by true q e =
        let o : b ≡ record { bytes = bs; place = 0; rules = 0 } = cc in
        let none : b.rules ≡ 0 = ap (λ x. x.rules) o in
        record {
          rest = ap₂ rest_places o n ∙ ap (λ t. seen (rule_places 0) (ask t TooLong (items_past 0 0 0 bs))) (sym q);
          same = ap (λ x. x.bytes) o;
          short = leb-true (length bs) most_bytes q;
          few = omega (arith, none);
          counted = ap length n ∙ sym none;
        }
    by false q e = let z : ◌≡◌ {A = ℕ} 0 1 = cc in absurd (omega arith)

begin_not : (bs : List ℕ) (x : BookFault) → Err x ≡ opened bs → Err x ≡ seen (rule_places 0) (book bs)
begin_not bs x e = by (leb (length bs) most_bytes) e
  where
    by : (t : Bool) → Err x ≡ ask {T = BookView} t TooLong (Ok (record { bytes = bs; place = 0; rules = 0 })) → Err x ≡ seen (rule_places 0) (ask t TooLong (items_past 0 0 0 bs))
    by true e = let z : ◌≡◌ {A = ℕ} 0 1 = cc in absurd (omega arith)
    by false e = let same : x ≡ TooLong = cc in ap Err same

module _ (bs : List ℕ) (b d : BookView) (places : List ℕ) (v : ItemView) (r : Reading bs b places) (w : Went b d v) where
  -- a world
  pub world_more : adds v ≡ [] → item_count v ≡ 0 → Reading bs d places
  world_more n c =
      record {
        rest = ap (rest_places d) (sym (append-nil places) ∙ ap (λ l. places ++ l) (sym n)) ∙ w.rest places ∙ r.rest;
        same = w.bytes ∙ r.same;
        short = r.short;
        few = omega (arith, w.rules, r.few);
        counted = omega (arith, w.rules, r.counted);
      }

  -- a rule
  pub rule_more : (x : ℕ) (after : List ℕ) → adds v ≡ x ∷ [] → item_count v ≡ 1 → after ≡ places ++ x ∷ [] → Reading bs d after
  rule_more x after n c e =
      record {
        rest = ap (rest_places d) (e ∙ ap (λ l. places ++ l) (sym n)) ∙ w.rest places ∙ r.rest;
        same = w.bytes ∙ r.same;
        short = r.short;
        few = omega (arith, w.rules, w.room, r.few);
        counted = omega (arith, ap length e, length_push places x, w.rules, r.counted);
      }

  -- there is a place for it
  pub room_left : item_count v ≡ 1 → length places < most_rules
  room_left c = omega (arith, w.room, r.few, r.counted)

-- no item is left
row_ends : (n p : ℕ) (bs : List ℕ) → Ok None ≡ shown_first p (first_item n p bs) → items_past n 0 p bs ≡ Ok []
row_ends n p [] e = refl
row_ends n p (b ∷ bs) e = by (item n p b bs) e
  where
    by : (r : Result (Item × ℕ) BookFault) → Ok None ≡ shown_first p (go r (λ e. e) (λ i. Ok (Some i))) → items_past n 0 p (b ∷ bs) ≡ Ok []
    by (Ok x) e = let z : ◌≡◌ {A = ℕ} 0 1 = cc in absurd (omega arith)
    by (Err x) e = let z : ◌≡◌ {A = ℕ} 0 1 = cc in absurd (omega arith)

pub ends : (bs : List ℕ) (b : BookView) (places : List ℕ) → Reading bs b places → Ok None ≡ shown_first b.place (next_of b) → Ok places ≡ seen (rule_places 0) (book bs)
ends bs b places r e =
    ap Ok (sym (append-nil places))
    ∙ sym (ap (seen (λ is. places ++ rule_places b.place is)) (row_ends b.rules b.place (drop b.place b.bytes) e))
    ∙ r.rest

row_fails : (n p : ℕ) (bs : List ℕ) (x : BookFault) → Err x ≡ shown_first p (first_item n p bs) → items_past n 0 p bs ≡ Err x
row_fails n p [] x e = let z : ◌≡◌ {A = ℕ} 0 1 = cc in absurd (omega arith)
row_fails n p (b ∷ bs) x e = by (item n p b bs) refl e
  where
    by : (r : Result (Item × ℕ) BookFault) → item n p b bs ≡ r → Err x ≡ shown_first p (go r (λ e. e) (λ i. Ok (Some i))) → items_past n 0 p (b ∷ bs) ≡ Err x
    by (Ok y) q e = let z : ◌≡◌ {A = ℕ} 0 1 = cc in absurd (omega arith)
    by (Err y) q e = let same : y ≡ x = cc in no_more n p b bs y q ∙ ap Err same

-- ── for the code: what a refusal says ──

module _ {T : Type 0} (f : T → List ℕ) (r : Result T BookFault) (x y : BookFault) (i : r ≡ Err x) (j : x ≡ y) where
  pub refused_first : (bs : List ℕ) → Err y ≡ opened bs → seen f r ≡ seen (rule_places 0) (book bs)
  refused_first bs e = ap (seen f) (i ∙ ap Err j) ∙ begin_not bs y e

  pub refused_later : (bs : List ℕ) (b : BookView) (places : List ℕ) → Reading bs b places → Err y ≡ shown_first b.place (next_of b) → seen f r ≡ seen (rule_places 0) (book bs)
  refused_later bs b places r e =
      ap (seen f) (i ∙ ap Err j)
      ∙ sym (ap (seen (λ is. places ++ rule_places b.place is)) (row_fails b.rules b.place (drop b.place b.bytes) y e))
      ∙ r.rest
