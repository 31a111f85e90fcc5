-- Written and read back. Assumes nothing.
use Rattle.std.proofs.Common.{◌≡◌, ℕ, suc, ◌≤◌, true, leb, List, [], ◌∷◌, ◌++◌, map, length, take, drop, Ok, Err, Result, sym, refl, ap, ◌∙◌, subst, ap₂, arith}
use Rattle.std.proofs.lemmas.List.{take_at}
use Rattle.std.proofs.lemmas.Bool.{and_parts, and_from, leb-true, le-leb}
use Rattle.terms.specs.Terms.{Rule}
use Rattle.grammar.specs.Items.{Item, world, rule, rules, book, most_bytes, most_rules}
use Rattle.grammar.specs.Encodings.{AllBytes, rule_bytes, book_bytes, AllFitItems}
use Rattle.grammar.specs.Texts.{all_bytes, fit, all_fit, texts_of}
use Rattle.grammar.proofs.Framed.{ask_yes, asked}
use Rattle.grammar.specs.declared.faults.BookFault.{BookFault}
use Rattle.grammar.proofs.Alone.{rules_inverse}
use Rattle.grammar.proofs.Fitting.{fit_text, fit_told, bytes_known}
use Rattle.grammar.proofs.Rows.{books_inverse}
use Rattle.books.specs.declared.faults.WriteFault.{WriteFault}
use Rattle.books.specs.declared.faults.WriteFault.TheVariants.{Rules, Bytes, Room}
use Rattle.books.specs.Begins.{item_texts}
use Rattle.books.specs.Writing.{joined, book_of, book_size, sized, fitted, written, filled, after_writing}
use Rattle.books.specs.Laws.{BookOfRules, WrittenRulesReadBack, BooksAreWrittenBack}
use Rattle.books.proofs.Written.{book_length}

-- ── what is written ──

pub record Wrote (ts : List (List ℕ)) (room n : ℕ) : Type 0 where
  pub few : length ts ≤ most_rules
  pub light : book_size ts ≤ most_bytes
  pub fits : book_size ts ≤ room
  pub is : n ≡ book_size ts

wrote : (ts : List (List ℕ)) (room n : ℕ) → written ts room ≡ Ok n → Wrote ts room n
wrote ts room n e = by (sized ts) refl e
  where
    by : (r : Result ℕ WriteFault) → sized ts ≡ r → fitted room r ≡ Ok n → Wrote ts room n
    by (Err x) q e = let z : ◌≡◌ {A = ℕ} 0 1 = cc in absurd (omega arith)
    by (Ok m) q e =
        let few = ask_yes (leb (length ts) most_rules) Rules _ m q in
        let light = ask_yes (leb (book_size ts) most_bytes) Bytes _ m few.1 in
        let fits = ask_yes (leb m room) Room (Ok m) n e in
        let o : ◌≡◌ {A = Result ℕ WriteFault} (Ok (book_size ts)) (Ok m) = light.1 in
        let p : ◌≡◌ {A = Result ℕ WriteFault} (Ok m) (Ok n) = fits.1 in
        let same : book_size ts ≡ m = cc in
        let last : m ≡ n = cc in
        record {
          few = leb-true (length ts) most_rules few.0;
          light = leb-true (book_size ts) most_bytes light.0;
          fits = omega (arith, leb-true m room fits.0);
          is = omega arith;
        }

writes : (ts : List (List ℕ)) (room : ℕ) → length ts ≤ most_rules → book_size ts ≤ most_bytes → book_size ts ≤ room → written ts room ≡ Ok (book_size ts)
writes ts room f l r =
    ap (fitted room)
    (asked (leb (length ts) most_rules) Rules _ (le-leb (length ts) most_rules f)
    ∙ asked (leb (book_size ts) most_bytes) Bytes _ (le-leb (book_size ts) most_bytes l))
    ∙ asked (leb (book_size ts) room) Room _ (le-leb (book_size ts) room r)

-- ── rules in world 0 ──

abbrev in_world : List Rule → List Item
in_world rs = world 0 ∷ map rule rs

-- the bytes of a row of rules, and the rules of it
row_bytes : (rs : List Rule) → book_bytes (map rule rs) ≡ joined (map rule_bytes rs)
row_bytes [] = refl
row_bytes (r ∷ rs) = ap (λ l. rule_bytes r ++ l) (row_bytes rs)

row_rules : (rs : List Rule) → rules (map rule rs) ≡ rs
row_rules [] = refl
row_rules (r ∷ rs) = ap (λ l. r ∷ l) (row_rules rs)

world_bytes : (rs : List Rule) → book_bytes (in_world rs) ≡ book_of (map rule_bytes rs)
world_bytes rs = ap (λ l. 0x11 ∷ 0 ∷ l) (row_bytes rs)

world_texts : (rs : List Rule) → item_texts (in_world rs) ≡ map rule_bytes rs
world_texts rs = ap (map rule_bytes) (row_rules rs)

-- the rules that fit texts are
record RulesOf (ts : List (List ℕ)) : Type 0 where
  these : List Rule
  fit_items : AllFitItems (map rule these)
  texts : map rule_bytes these ≡ ts

rules_of : (ts : List (List ℕ)) → all_fit ts ≡ true → RulesOf ts
rules_of [] e = record { these = []; fit_items = tt; texts = refl }
rules_of (t ∷ ts) e =
    let p = and_parts (fit t) (all_fit ts) e in
    let x = fit_text t p.0 in
    let more = rules_of ts p.1 in
    record {
      these = x.r ∷ more.these;
      fit_items = (x.within, more.fit_items);
      texts = ap₂ (λ a b. a ∷ b) (sym x.bytes) more.texts;
    }

-- ── reading back ──

texts_count : (rs : List Rule) → length (map rule_bytes rs) ≡ length rs
texts_count [] = refl
texts_count (r ∷ rs) = ap suc (texts_count rs)

reads : (ts : List (List ℕ)) → all_fit ts ≡ true → length ts ≤ most_rules → book_size ts ≤ most_bytes → BookOfRules (book_of ts) ts
reads ts e few light =
    let x = rules_of ts e in
    let rs = x.these in
    let is = in_world rs in
    let same : book_bytes is ≡ book_of ts = world_bytes rs ∙ ap book_of x.texts in
    record {
      items = is;
      read = ap book (sym same) ∙ books_inverse.reads_back is
          (record {
            each = (omega arith, x.fit_items);
            few_rules = omega (arith, ap length (row_rules rs), texts_count rs, ap length x.texts);
            few_bytes = omega (arith, ap length same, book_length ts);
          });
      rules = world_texts rs ∙ x.texts;
    }

pub read_back : WrittenRulesReadBack
read_back ts out n e w =
    let x = wrote ts (length out) n w in
    let front : take n (after_writing ts out) ≡ book_of ts =
    ap (λ r. take n (filled r (book_of ts) out)) w ∙ take_at (book_of ts) (drop n out) n (book_length ts ∙ sym x.is) in
    subst (λ bs. BookOfRules bs ts) (sym front) (reads ts e x.few x.light)

-- ── writing back ──

pub written_back : BooksAreWrittenBack
written_back bs rs out a e l =
    let is = in_world rs in
    let k = books_inverse.only_encodings bs is a e in
    let ts = map rule_bytes rs in
    let texts : texts_of (book bs) ≡ ts = ap texts_of e ∙ world_texts rs in
    let same : bs ≡ book_of ts = k.1 ∙ world_bytes rs in
    let long : book_size ts ≡ length bs = sym (ap length same ∙ book_length ts) in
    let done : written ts (length out) ≡ Ok (length bs) =
    writes ts (length out)
    (omega (arith, k.0.few_rules, ap length (row_rules rs), texts_count rs))
    (omega (arith, k.0.few_bytes, ap length k.1))
    (omega arith)
    ∙ ap Ok long in
    record {
      length_of = ap (λ ts. written ts (length out)) texts ∙ done;
      bytes = ap (λ ts. after_writing ts out) texts ∙ ap (λ r. filled r (book_of ts) out) done ∙ ap (λ x. x ++ drop (length bs) out) (sym same);
    }

-- ── the rules of a book are fit ──

bytes_front : (xs ys : List ℕ) → AllBytes (xs ++ ys) → AllBytes xs
bytes_front [] ys a = tt
bytes_front (x ∷ xs) ys a = (a.0, bytes_front xs ys a.1)

bytes_back : (xs ys : List ℕ) → AllBytes (xs ++ ys) → AllBytes ys
bytes_back [] ys a = a
bytes_back (x ∷ xs) ys a = bytes_back xs ys a.1

items_fit : (is : List Item) → AllFitItems is → AllBytes (book_bytes is) → all_fit (item_texts is) ≡ true
items_fit [] f a = refl
items_fit (world w ∷ is) f a = items_fit is f.1 a.1.1
items_fit (rule r ∷ is) f a =
    let front = bytes_front (rule_bytes r) (book_bytes is) a in
    and_from (fit (rule_bytes r)) (all_fit (item_texts is)) (fit_told (rule_bytes r) r front (rules_inverse.reads_back r f.0))
    (items_fit is f.1 (bytes_back (rule_bytes r) (book_bytes is) a))

pub book_fits : (bs : List ℕ) → all_bytes bs ≡ true → all_fit (texts_of (book bs)) ≡ true
book_fits bs e = by (book bs) refl
  where
    by : (s : Result (List Item) BookFault) → book bs ≡ s → all_fit (texts_of s) ≡ true
    by (Ok is) q =
        let a = bytes_known bs e in
        let k = books_inverse.only_encodings bs is a q in
        items_fit is k.0.each (subst AllBytes k.1 a)
    by (Err x) q = refl
