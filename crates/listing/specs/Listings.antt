-- The rows of a listing, from the bytes of a book and of a query. Assumes nothing.
use Rattle.std.specs.Prelude.{ℕ, zero, suc, Bool, true, false, cond, List, [], ◌∷◌, length, Ok, Err, Result, nat_le}
use Rattle.terms.specs.Terms.{Rule, Query}
use Rattle.grammar.specs.Asking.{go}
use Rattle.grammar.specs.Items.{book}
use Rattle.books.specs.Begins.{item_texts}
use Rattle.resolution.specs.declared.Word.{Word}
use Rattle.resolution.specs.declared.Word.TheVariants.{Answer, Spent, Stopped, NoMore}
use Rattle.resolution.specs.declared.Outcome.{Outcome}
use Rattle.resolution.specs.declared.Refusal.{Refusal}
use Rattle.resolution.specs.Search.{Search, opened, Called, next}
use Rattle.slips.specs.declared.faults.WriteRefusal.TheVariants.{NoRoom}
use Rattle.slips.specs.Slips.{Slip, slip_of, numbers, slip_bytes}
use Rattle.slips.specs.Opening.{Opened, opening as opening_over}
use Rattle.listing.specs.declared.faults.Fault.{Fault}
use Rattle.listing.specs.declared.faults.Fault.TheVariants.{Book, Opening, Call, Writing}
use Rattle.listing.specs.declared.rows.Row.{Row}
use Rattle.listing.specs.declared.rows.Row.TheVariants.{Told, Refused}
use Rattle.listing.specs.Limits.{allowance, call_limit, slip_room}

-- ── opening ──

-- the rules and the query that a search is opened with: the book is read first
abbrev pub opening : List ℕ → List ℕ → Result Opened Fault
opening bs qs = go (book bs) Book (λ is. go (opening_over (item_texts is) qs) Opening (λ o. Ok o))

-- ── a row ──

-- the rule numbers of an answer, whose slip must have room
abbrev pub numbers_in : Slip → Result (List ℕ) Fault
numbers_in s = cond (nat_le (length (slip_bytes s)) slip_room) (Ok (numbers s.steps)) (Err (Writing NoRoom))

-- only the word answer comes with rule numbers
abbrev pub numbers_with : Word → Slip → Result (List ℕ) Fault
numbers_with Answer s = numbers_in s
numbers_with Spent s = Ok []
numbers_with (Stopped why) s = Ok []
numbers_with NoMore s = Ok []

-- the row of what a call returned, where the slip is that of the place at which the search then stands
abbrev pub told : Result Outcome Refusal → Slip → Result Row Fault
told (Ok o) s = go (numbers_with o.word s) (λ e. e) (λ ns. Ok (Told o (record { items = ns })))
told (Err e) s = Err (Call e)

abbrev pub told_by : List Rule → Query → Called → Result Row Fault
told_by rs q c = told c.result (slip_of rs q c.search.place)

abbrev pub row : Result Row Fault → Row
row (Ok r) = r
row (Err e) = Refused e

-- ── all rows ──

-- the search goes on after an answer and where an allowance is spent
abbrev pub last_word : Word → Bool
last_word Answer = false
last_word Spent = false
last_word (Stopped why) = true
last_word NoMore = true

abbrev pub last : Row → Bool
last (Told o ns) = last_word o.word
last (Refused e) = true

-- the rows of at most so many calls
unfoldable pub rows : List Rule → Query → ℕ → Search → List Row
rows rs q zero s = []
rows rs q (suc n) s =
    let c : Called = next rs allowance s in
    let r : Row = row (told_by rs q c) in
    let others : List Row = rows rs q n c.search in
    r ∷ cond (last r) [] others

abbrev pub rows_after : Result Opened Fault → List Row
rows_after (Ok o) = rows o.rules o.query call_limit (opened o.query)
rows_after (Err e) = Refused e ∷ []

-- the rows for a book and a query
abbrev pub listing : List ℕ → List ℕ → List Row
listing bs qs = rows_after (opening bs qs)
