-- The laws of reading. Assumes nothing.
use Rattle.std.specs.Prelude.{◌≡◌, ℕ, ◌≤◌, List, ◌∷◌, ◌++◌, length, Ok, Err, Result, ◌≢◌}
use Rattle.grammar.specs.declared.faults.SingleFault.{SingleFault}
use Rattle.grammar.specs.declared.faults.BookFault.{BookFault}
use Rattle.grammar.specs.Refusals.{single_place, book_place}
use Rattle.grammar.specs.Singles.{rule, query}
use Rattle.grammar.specs.Items.{Item, item, book, rules, most_bytes}
use Rattle.grammar.specs.Encodings.{AllBytes, rule_bytes, query_bytes, book_bytes, FitRule, FitQuery, FitBook}

-- Reading gives a value exactly where the bytes are its encoding and it is within the limits; so what is
-- refused is no such encoding, and different values have different encodings.
pub record Inverse {T E : Type 0} (read : List ℕ → Result T E) (write : T → List ℕ) (Fit : T → Type 0) : Type 0 where
  pub reads_back : (x : T) → Fit x → read (write x) ≡ Ok x
  pub only_encodings : (bs : List ℕ) (x : T) → AllBytes bs → read bs ≡ Ok x → Fit x × (bs ≡ write x)
  pub refuses_others : (bs : List ℕ) → AllBytes bs → ((x : T) → Fit x → bs ≢ write x) → (e : E) × (read bs ≡ Err e)
  pub apart : (x y : T) → Fit x → Fit y → write x ≡ write y → x ≡ y

abbrev pub RulesAreTheirBytes : Type 0
RulesAreTheirBytes = Inverse rule rule_bytes FitRule

abbrev pub QueriesAreTheirBytes : Type 0
QueriesAreTheirBytes = Inverse query query_bytes FitQuery

-- a book is the bytes of its items, one after the other
abbrev pub BooksAreTheirItems : Type 0
BooksAreTheirItems = Inverse book book_bytes FitBook

-- no fault stands beyond the end of the bytes
pub record FaultsStandInside : Type 0 where
  pub in_rule : (bs : List ℕ) (e : SingleFault) → rule bs ≡ Err e → single_place e ≤ length bs
  pub in_query : (bs : List ℕ) (e : SingleFault) → query bs ≡ Err e → single_place e ≤ length bs
  pub in_book : (bs : List ℕ) (e : BookFault) → book bs ≡ Err e → book_place e ≤ length bs

-- where a book that is not too long has a fault: the items before it make a book by themselves, and the
-- fault is that of the item that begins after them
pub record Stops (bs : List ℕ) (e : BookFault) : Type 0 where
  pub before : List Item
  pub first : ℕ
  pub rest : List ℕ
  pub split : bs ≡ book_bytes before ++ first ∷ rest
  pub alone : book (book_bytes before) ≡ Ok before
  pub fault : item (length (rules before)) (length (book_bytes before)) first rest ≡ Err e

abbrev pub FaultsLeaveWhatIsBefore : Type 0
FaultsLeaveWhatIsBefore = (bs : List ℕ) (e : BookFault) → AllBytes bs → length bs ≤ most_bytes → book bs ≡ Err e → Stops bs e
