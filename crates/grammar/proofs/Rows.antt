-- Reading a book, item by item, is the inverse of writing its items. Assumes nothing.
use Rattle.std.proofs.Common.{◌≡◌, ℕ, zero, suc, ◌+◌, ◌≤◌, max, Bool, true, false, cond, eqb, ltb, leb, List, [], ◌∷◌, ◌++◌, length, drop, Ok, Err, Result, sym, refl, ap, ◌∙◌, subst, ap₂, append_assoc, add-zero, arith, length-append, length-drop}
use Rattle.std.proofs.lemmas.Bool.{eqb-true, ltb-true, lt-ltb, leb-true, le-leb}
use Rattle.std.proofs.lemmas.List.{drop_at}
use Rattle.terms.specs.declared.Form.TheVariants.{Rules}
use Rattle.terms.specs.Terms.{Term}
use Rattle.terms.specs.Bytes.{two, encodings}
use Rattle.grammar.specs.declared.faults.RuleFault.TheVariants.{Command}
use Rattle.grammar.specs.declared.faults.BookFault.{BookFault}
use Rattle.grammar.specs.declared.faults.BookFault.TheVariants.{Rule as InRule, TooLong, NoItem, TooManyRules}
use Rattle.grammar.specs.Asking.{ask, go}
use Rattle.grammar.specs.Singles.{rule_byte, header, body, rule_due, rule_of}
use Rattle.grammar.specs.Items.{most_bytes, most_rules, world_byte, Item, world, rule, world_item, rule_item, item, counts, with_item, items_past, book, rules}
use Rattle.grammar.specs.Encodings.{AllBytes, framed, rule_bytes, Within, FitRule, item_bytes, book_bytes, FitItem, AllFitItems, FitBook}
use Rattle.grammar.specs.Laws.{BooksAreTheirItems, FaultsLeaveWhatIsBefore}
use Rattle.grammar.proofs.Encoded.{bytes_drop}
use Rattle.grammar.proofs.Framed.{ask_yes, asked, go_yes, body_is, body_reads, header_bytes, header_is, header_reads, over_terms, within_body, body_within}
use Rattle.grammar.proofs.Alone.{inverse}

-- ── one item ──

-- an item that was read after n rules: its bytes, of which k follow the first, and the bytes after it
pub record ItemRead (n b : ℕ) (bs : List ℕ) (i : Item) (k : ℕ) : Type 0 where
  pub split : b ∷ bs ≡ item_bytes i ++ drop k bs
  pub inside : k ≤ length bs
  pub size : length (item_bytes i) ≡ suc k
  pub fit : FitItem i
  pub room : n + counts i ≤ max n most_rules

-- the rule over terms that were read under a header
rule_over : (v g : ℕ) (ts : List Term) → length ts ≡ suc g → Within v g ts → FitRule (rule_of v ts) × (rule_bytes (rule_of v ts) ≡ framed rule_byte v g ts)
rule_over v g [] c w = absurd (omega arith)
rule_over v g (t ∷ ts) c w =
    let same : g ≡ length ts = omega arith in
    (subst (λ n. Within v n (t ∷ ts)) same w, ap (λ n. framed rule_byte v n (t ∷ ts)) (sym same))

rule_read : (n p b : ℕ) (bs : List ℕ) (i : Item) (k : ℕ) → b ≡ rule_byte → AllBytes bs → rule_item n p bs ≡ Ok (i, k) → ItemRead n b bs i k
rule_read n p b bs i k t a e =
    let q3 = go_yes (header p bs) (λ e. InRule n (Command e)) _ (i, k) e in
    let h = q3.0 in
    let hd = header_is p bs h a q3.1 in
    let q4 = ask_yes (ltb n most_rules) (TooManyRules p n) _ (i, k) q3.2 in
    let q8 = go_yes (body (rule_due h) p h) (InRule n) _ (i, k) q4.1 in
    let ts = q8.0 in
    let bd = body_is (rule_due h) p h ts hd.1 q8.1 in
    let w = body_within (rule_due h) h ts bd in
    let r = rule_over h.variables h.goals ts bd.count w.0 in
    let o : ◌≡◌ {A = Result (Item × ℕ) BookFault} (Ok (rule (rule_of h.variables ts), 4 + h.size)) (Ok (i, k)) = q8.2 in
    let pairs : ◌≡◌ {A = Item × ℕ} (rule (rule_of h.variables ts), 4 + h.size) (i, k) = cc in
    let is : rule (rule_of h.variables ts) ≡ i = ap (λ x. x.0) pairs in
    let len : 4 + h.size ≡ k = ap (λ x. x.1) pairs in
    let long : length (item_bytes i) ≡ 5 + length (encodings Rules ts) =
    ap (λ x. length (item_bytes x)) (sym is) ∙ ap length r.1 ∙ omega arith in
    let after : drop k bs ≡ drop h.size h.rest =
    ap (drop k) hd.0 ∙ ap (λ m. drop m (header_bytes h)) (sym len ∙ (let four : 4 + h.size ≡ suc (suc (suc (suc h.size))) = omega arith in four)) in
    record {
      split =
          ap₂ (λ x l. x ∷ l) t hd.0
          ∙ ap₂ (λ m l. rule_byte ∷ h.variables ∷ h.goals ∷ (two m ++ l)) w.1 w.2
          ∙ ap (λ l. l ++ drop h.size h.rest) (sym r.1 ∙ ap item_bytes is)
          ∙ ap (λ l. item_bytes i ++ l) (sym after);
      inside = omega (arith, ap length hd.0, bd.inside);
      size = omega (arith, long, w.1);
      fit = subst FitItem is r.0;
      room = subst (λ x. n + counts x ≤ max n most_rules) is (omega (arith, ltb-true n most_rules q4.0));
    }

world_read : (n p b : ℕ) (bs : List ℕ) (i : Item) (k : ℕ) → b ≡ world_byte → AllBytes bs → world_item p bs ≡ Ok (i, k) → ItemRead n b bs i k
world_read n p b [] i k t a e = let z : ◌≡◌ {A = ℕ} 0 1 = cc in absurd (omega arith)
world_read n p b (w ∷ bs) i k t a e =
    let pairs : ◌≡◌ {A = Item × ℕ} (world w, 1) (i, k) = cc in
    let is : world w ≡ i = ap (λ x. x.0) pairs in
    let len : 1 ≡ k = ap (λ x. x.1) pairs in
    record {
      split = ap (λ x. x ∷ w ∷ bs) t ∙ ap₂ (λ x m. item_bytes x ++ drop m (w ∷ bs)) is len;
      inside = omega arith;
      size = ap (λ x. length (item_bytes x)) (sym is) ∙ omega arith;
      fit = subst FitItem is a.0;
      room = subst (λ x. n + counts x ≤ max n most_rules) is (omega arith);
    }

pub item_read : (n p b : ℕ) (bs : List ℕ) (i : Item) (k : ℕ) → AllBytes bs → item n p b bs ≡ Ok (i, k) → ItemRead n b bs i k
item_read n p b bs i k a e = by (eqb b rule_byte) (eqb b world_byte) refl refl e
  where
    by : (x y : Bool) → eqb b rule_byte ≡ x → eqb b world_byte ≡ y → cond x (rule_item n p bs) (cond y (world_item p bs) (Err (NoItem p))) ≡ Ok (i, k) → ItemRead n b bs i k
    by true y s t e = rule_read n p b bs i k (eqb-true b rule_byte s) a e
    by false true s t e = world_read n p b bs i k (eqb-true b world_byte t) a e
    by false false s t e = let z : ◌≡◌ {A = ℕ} 0 1 = cc in absurd (omega arith)

-- ── an item's bytes are read as it ──

-- the bytes of an item after its first
abbrev pub item_tail : Item → List ℕ
item_tail (world w) = w ∷ []
item_tail (rule r) = drop 1 (rule_bytes r)

abbrev pub item_first : Item → ℕ
item_first (world w) = world_byte
item_first (rule r) = rule_byte

pub item_reads : (n p : ℕ) (i : Item) (more : List ℕ) → FitItem i → n + counts i ≤ most_rules → item n p (item_first i) (item_tail i ++ more) ≡ Ok (i, length (item_tail i))
item_reads n p (world w) more f m = refl
item_reads n p (rule r) more f m =
    let ts = r.head ∷ r.goals in
    let h = over_terms r.variables (length r.goals) ts more in
    ap (rule_item n p) (ap (λ l. r.variables ∷ length r.goals ∷ l) (append_assoc (two (length (encodings Rules ts))) (encodings Rules ts) more))
    ∙ ap (λ s. go s (λ e. InRule n (Command e)) (λ h. ask (ltb n most_rules) (TooManyRules p n) (go (body (rule_due h) p h) (InRule n) (λ ts. Ok (rule (rule_of h.variables ts), 4 + h.size))))) (header_reads p h)
    ∙ asked (ltb n most_rules) (TooManyRules p n) _ (lt-ltb n most_rules (omega arith))
    ∙ ap (λ s. go s (InRule n) (λ ts. Ok (rule (rule_of r.variables ts), 4 + h.size))) (body_reads (rule_due h) p h ts (within_body (rule_due h) r.variables (length r.goals) ts more f refl))
    ∙ ap (λ k. Ok (rule r, k)) (omega arith)

-- ── the row of items ──

-- what belongs to the item before is passed over
pub past : (n k p : ℕ) (bs : List ℕ) → k ≤ length bs → items_past n k p bs ≡ items_past n 0 (p + k) (drop k bs)
past n zero p bs l = ap (λ m. items_past n 0 m bs) (sym (add-zero p))
past n (suc k) p [] l = absurd (omega arith)
past n (suc k) p (b ∷ bs) l = past n k (p + 1) bs (omega arith) ∙ ap (λ m. items_past n 0 m (drop k bs)) (omega arith)

-- after an item the others are read
pub one_more : (n p b : ℕ) (bs : List ℕ) (i : Item) (k : ℕ) → k ≤ length bs → item n p b bs ≡ Ok (i, k)
    → items_past n 0 p (b ∷ bs) ≡ with_item i (items_past (n + counts i) 0 (p + suc k) (drop k bs))
one_more n p b bs i k l e =
    ap (λ r. go r (λ e. e) (λ i. with_item i.0 (items_past (n + counts i.0) i.1 (p + 1) bs))) e
    ∙ ap (with_item i) (past (n + counts i) k (p + 1) bs l ∙ ap (λ m. items_past (n + counts i) 0 m (drop k bs)) (omega arith))

pub no_more : (n p b : ℕ) (bs : List ℕ) (x : BookFault) → item n p b bs ≡ Err x → items_past n 0 p (b ∷ bs) ≡ Err x
no_more n p b bs x e = ap (λ r. go r (λ e. e) (λ i. with_item i.0 (items_past (n + counts i.0) i.1 (p + 1) bs))) e

counts_more : (i : Item) (is : List Item) → length (rules (i ∷ is)) ≡ counts i + length (rules is)
counts_more (world w) is = omega arith
counts_more (rule r) is = omega arith

first_tail : (i : Item) (more : List ℕ) → item_bytes i ++ more ≡ item_first i ∷ (item_tail i ++ more)
first_tail (world w) more = refl
first_tail (rule r) more = refl

pub items_read : (n p : ℕ) (is : List Item) → AllFitItems is → n + length (rules is) ≤ most_rules → items_past n 0 p (book_bytes is) ≡ Ok is
items_read n p [] f m = refl
items_read n p (i ∷ is) f m =
    let c = counts_more i is in
    let l : length (item_tail i) ≤ length (item_tail i ++ book_bytes is) = omega (arith, length-append (item_tail i) (book_bytes is)) in
    ap (items_past n 0 p) (first_tail i (book_bytes is))
    ∙ one_more n p (item_first i) (item_tail i ++ book_bytes is) i (length (item_tail i)) l (item_reads n p i (book_bytes is) f.0 (omega arith))
    ∙ ap (λ x. with_item i (items_past (n + counts i) 0 (p + suc (length (item_tail i))) x)) (drop_at (item_tail i) (book_bytes is) (length (item_tail i)) refl)
    ∙ ap (with_item i) (items_read (n + counts i) (p + suc (length (item_tail i))) is f.1 (omega arith))

-- ── what was read, or where it stopped ──

-- the items of the bytes at p, after n rules
pub record Row (n : ℕ) (bs : List ℕ) (is : List Item) : Type 0 where
  pub bytes : bs ≡ book_bytes is
  pub fit : AllFitItems is
  pub room : n + length (rules is) ≤ most_rules

pub record Stopped (n p : ℕ) (bs : List ℕ) (e : BookFault) : Type 0 where
  pub before : List Item
  pub first : ℕ
  pub rest : List ℕ
  pub split : bs ≡ book_bytes before ++ first ∷ rest
  pub fit : AllFitItems before
  pub room : n + length (rules before) ≤ most_rules
  pub fault : item (n + length (rules before)) (p + length (book_bytes before)) first rest ≡ Err e

abbrev pub Came : ℕ → ℕ → List ℕ → Result (List Item) BookFault → Type 0
Came n p bs (Ok is) = Row n bs is
Came n p bs (Err e) = Stopped n p bs e

item_more : (n p b : ℕ) (bs : List ℕ) (i : Item) (k : ℕ) (r : Result (List Item) BookFault) → ItemRead n b bs i k
    → Came (n + counts i) (p + suc k) (drop k bs) r → Came n p (b ∷ bs) (with_item i r)
item_more n p b bs i k (Ok is) h c =
    record {
      bytes = h.split ∙ ap (λ l. item_bytes i ++ l) c.bytes;
      fit = (h.fit, c.fit);
      room = omega (arith, counts_more i is, c.room);
    }
item_more n p b bs i k (Err e) h c =
    let is = c.before in
    let long : length (item_bytes i ++ book_bytes is) ≡ length (item_bytes i) + length (book_bytes is) = length-append (item_bytes i) (book_bytes is) in
    let count : n + counts i + length (rules is) ≡ n + length (rules (i ∷ is)) = omega (arith, counts_more i is) in
    let place : p + suc k + length (book_bytes is) ≡ p + length (item_bytes i ++ book_bytes is) = omega (arith, h.size) in
    record {
      before = i ∷ is;
      first = c.first;
      rest = c.rest;
      split = h.split ∙ ap (λ l. item_bytes i ++ l) c.split ∙ sym (append_assoc (item_bytes i) (book_bytes is) (c.first ∷ c.rest));
      fit = (h.fit, c.fit);
      room = omega (arith, c.room);
      fault = ap₂ (λ m q. item m q c.first c.rest) (sym count) (sym place) ∙ c.fault;
    }

abbrev Comes : ℕ → Type 0
Comes m = (n p : ℕ) (bs : List ℕ) → length bs ≤ m → AllBytes bs → n ≤ most_rules → Came n p bs (items_past n 0 p bs)

comes : (m : ℕ) → Comes m
comes m n p [] l a r = record { bytes = refl; fit = tt; room = omega arith }
comes zero n p (b ∷ bs) l a r = absurd (omega arith)
comes (suc m) n p (b ∷ bs) l a r = by (item n p b bs) refl (λ n p bs l a r. comes m n p bs l a r)
  where
    by : (x : Result (Item × ℕ) BookFault) → item n p b bs ≡ x → Comes m → Came n p (b ∷ bs) (items_past n 0 p (b ∷ bs))
    by (Ok (i, k)) e again =
        let h = item_read n p b bs i k a.1 e in
        subst (Came n p (b ∷ bs)) (sym (one_more n p b bs i k h.inside e))
        (item_more n p b bs i k (items_past (n + counts i) 0 (p + suc k) (drop k bs)) h
        (again (n + counts i) (p + suc k) (drop k bs) (omega (arith, length-drop k bs)) (bytes_drop k bs a.1) (omega (arith, h.room))))
    by (Err x) e again =
        subst (Came n p (b ∷ bs)) (sym (no_more n p b bs x e))
        (record {
          before = [];
          first = b;
          rest = bs;
          split = refl;
          fit = tt;
          room = omega arith;
          fault = ap₂ (λ m q. item m q b bs) (add-zero n) (add-zero p) ∙ e;
        })

pub come : (bs : List ℕ) → AllBytes bs → Came 0 0 bs (items_past 0 0 0 bs)
come bs a = comes (length bs) 0 0 bs (omega arith) a (omega arith)

-- ── the book ──

pub books_inverse : BooksAreTheirItems
books_inverse =
    inverse book book_bytes FitBook
    (λ is f.
    asked (leb (length (book_bytes is)) most_bytes) TooLong _ (le-leb (length (book_bytes is)) most_bytes f.few_bytes)
    ∙ items_read 0 0 is f.each (omega (arith, f.few_rules)))
    (λ bs is a e.
    let q1 = ask_yes (leb (length bs) most_bytes) TooLong (items_past 0 0 0 bs) is e in
    let r : Row 0 bs is = subst (Came 0 0 bs) q1.1 (come bs a) in (
      record {
        each = r.fit;
        few_rules = omega (arith, r.room);
        few_bytes = omega (arith, ap length r.bytes, leb-true (length bs) most_bytes q1.0);
      },
      r.bytes,
    ))

pub stops : FaultsLeaveWhatIsBefore
stops bs e a l h =
    let s : Stopped 0 0 bs e = subst (Came 0 0 bs) (sym (asked (leb (length bs) most_bytes) TooLong (items_past 0 0 0 bs) (le-leb (length bs) most_bytes l)) ∙ h) (come bs a) in
    let is = s.before in
    let long = length-append (book_bytes is) (s.first ∷ s.rest) in
    let zero_rules : 0 + length (rules is) ≡ length (rules is) = omega arith in
    let zero_bytes : 0 + length (book_bytes is) ≡ length (book_bytes is) = omega arith in
    record {
      before = is;
      first = s.first;
      rest = s.rest;
      split = s.split;
      alone = books_inverse.reads_back is (record { each = s.fit; few_rules = omega (arith, s.room); few_bytes = omega (arith, ap length s.split) });
      fault = ap₂ (λ m q. item m q s.first s.rest) (sym zero_rules) (sym zero_bytes) ∙ s.fault;
    }
