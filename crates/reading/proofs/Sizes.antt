-- How many bytes an item has. Assumes nothing.
use Rattle.std.proofs.Common.{◌≡◌, ℕ, ◌+◌, ◌≤◌, max, List, [], ◌∷◌, length, Some, None, Ok, Err, Option, Result, sym, refl, ap, ◌∙◌, subst, arith, length-append}
use Rattle.terms.specs.declared.Form.TheVariants.{Rules}
use Rattle.terms.specs.Bytes.{encoding, encodings}
use Rattle.grammar.specs.declared.faults.BookFault.{BookFault}
use Rattle.grammar.specs.Asking.{go}
use Rattle.grammar.specs.Items.{Item, world, rule, item, counts, most_rules}
use Rattle.grammar.specs.Encodings.{AllBytes, item_bytes}
use Rattle.grammar.proofs.Rows.{item_read}
use Rattle.grammar.proofs.Places.{item_inside}
use Rattle.reading.specs.Books.{ItemView, item_shown, item_size, item_count, first_item, shown_first, sized_shown, sized_first}

pub shown_size : (p : ℕ) (i : Item) → item_size (item_shown p i) ≡ length (item_bytes i)
shown_size p (world w) = refl
shown_size p (rule r) = omega (arith, length-append (encoding Rules r.head) (encodings Rules r.goals))

pub shown_count : (p : ℕ) (i : Item) → item_count (item_shown p i) ≡ counts i
shown_count p (world w) = refl
shown_count p (rule r) = refl

-- the first item with the number of bytes that is shown
pub record First (n p : ℕ) (bs : List ℕ) (v : ItemView) : Type 0 where
  pub i : Item
  pub k : ℕ
  pub is : first_item n p bs ≡ Ok (Some (i, k))
  pub shown : v ≡ item_shown p i
  pub size : item_size v ≡ 1 + k
  pub inside : 1 + k ≤ length bs
  pub room : n + item_count v ≤ max n most_rules

pub first : (n p : ℕ) (bs : List ℕ) (v : ItemView) → AllBytes bs → Ok (Some v) ≡ shown_first p (first_item n p bs) → First n p bs v
first n p [] v a e = let z : ◌≡◌ {A = ℕ} 0 1 = cc in absurd (omega arith)
first n p (b ∷ bs) v a e = by (item n p b bs) refl
  where
    by : (r : Result (Item × ℕ) BookFault) → item n p b bs ≡ r → First n p (b ∷ bs) v
    by (Ok (i, k)) q =
        let is : first_item n p (b ∷ bs) ≡ Ok (Some (i, k)) = ap (λ r. go r (λ e. e) (λ i. Ok (Some i))) q in
        let o : ◌≡◌ {A = Result (Option ItemView) BookFault} (Ok (Some v)) (Ok (Some (item_shown p i))) = e ∙ ap (shown_first p) is in
        let shown : v ≡ item_shown p i = cc in
        let h = item_read n p b bs i k a.1 q in
        let long : item_size v ≡ length (item_bytes i) = ap item_size shown ∙ shown_size p i in
        record {
          i = i;
          k = k;
          is = is;
          shown = shown;
          size = omega (arith, h.size);
          inside = omega (arith, h.inside);
          room = subst (λ m. n + m ≤ max n most_rules) (sym (ap item_count shown ∙ shown_count p i)) h.room;
        }
    by (Err x) q =
        let o : ◌≡◌ {A = Result (Option ItemView) BookFault} (Ok (Some v)) (Err x) = e ∙ ap (λ r. shown_first p (go r (λ e. e) (λ i. Ok (Some i)))) q in
        let z : ◌≡◌ {A = ℕ} 0 1 = cc in absurd (omega arith)

-- ── the book ──

first_inside : (n p : ℕ) (bs : List ℕ) (i : Item) (k : ℕ) → first_item n p bs ≡ Ok (Some (i, k)) → 1 + k ≤ length bs
first_inside n p [] i k e = let z : ◌≡◌ {A = ℕ} 0 1 = cc in absurd (omega arith)
first_inside n p (b ∷ bs) i k e = by (item n p b bs) refl e
  where
    by : (r : Result (Item × ℕ) BookFault) → item n p b bs ≡ r → go r (λ e. e) (λ i. Ok (Some i)) ≡ Ok (Some (i, k)) → 1 + k ≤ length (b ∷ bs)
    by (Ok x) q e =
        let same : x ≡ (i, k) = cc in
        omega (arith, item_inside n p b bs i k (q ∙ ap Ok same))
    by (Err y) q e = let z : ◌≡◌ {A = ℕ} 0 1 = cc in absurd (omega arith)

-- an item that was read lies inside the bytes
pub sized_inside : (n p : ℕ) (bs : List ℕ) (x : ItemView × ℕ) → Ok (Some x) ≡ sized_first p (first_item n p bs) → x.1 ≤ length bs
sized_inside n p bs x e = by (first_item n p bs) refl e
  where
    by : (r : Result (Option (Item × ℕ)) BookFault) → first_item n p bs ≡ r → Ok (Some x) ≡ sized_first p r → x.1 ≤ length bs
    by (Ok (Some (i, k))) q e =
        let same : x ≡ sized_shown p (i, k) = cc in
        subst (λ m. m ≤ length bs) (sym (ap (λ y. y.1) same)) (first_inside n p bs i k q)
    by (Ok None) q e = let z : ◌≡◌ {A = ℕ} 0 1 = cc in absurd (omega arith)
    by (Err y) q e = let z : ◌≡◌ {A = ℕ} 0 1 = cc in absurd (omega arith)
