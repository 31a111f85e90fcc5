-- The laws of writing. Assumes nothing.
use Rattle.std.specs.Prelude.{◌≡◌, ℕ, ◌≤◌, true, List, ◌∷◌, ◌++◌, map, length, take, drop, Ok}
use Rattle.terms.specs.Terms.{Rule}
use Rattle.grammar.specs.Items.{Item, world, rule, book}
use Rattle.grammar.specs.Encodings.{AllBytes}
use Rattle.grammar.specs.Texts.{all_fit, texts_of}
use Rattle.books.specs.Begins.{item_texts}
use Rattle.books.specs.Writing.{written, after_writing}

-- the bytes are a book of these rules
pub record BookOfRules (bs : List ℕ) (ts : List (List ℕ)) : Type 0 where
  pub items : List Item
  pub read : book bs ≡ Ok items
  pub rules : item_texts items ≡ ts

-- fit rules that are written into a buffer stand there as a book of exactly those rules
abbrev pub WrittenRulesReadBack : Type 0
WrittenRulesReadBack =
    (ts : List (List ℕ)) (out : List ℕ) (n : ℕ) → all_fit ts ≡ true → written ts (length out) ≡ Ok n → BookOfRules (take n (after_writing ts out)) ts

-- written again: the length is that of the book, and its bytes come first
pub record WrittenBack (bs out : List ℕ) : Type 0 where
  pub length_of : written (texts_of (book bs)) (length out) ≡ Ok (length bs)
  pub bytes : after_writing (texts_of (book bs)) out ≡ bs ++ drop (length bs) out

-- a book whose one world is 0, before its rules, into a buffer that has room for it
abbrev pub BooksAreWrittenBack : Type 0
BooksAreWrittenBack =
    (bs : List ℕ) (rs : List Rule) (out : List ℕ) → AllBytes bs → book bs ≡ Ok (world 0 ∷ map rule rs) → length bs ≤ length out → WrittenBack bs out
