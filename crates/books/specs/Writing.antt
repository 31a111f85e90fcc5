-- How a list of rules is written as a book. Assumes nothing.
use Rattle.std.specs.Prelude.{ℕ, ◌+◌, List, [], ◌∷◌, ◌++◌, length, drop, Ok, Err, Result, nat_le}
use Rattle.std.specs.Fmt.{decimal}
use Rattle.grammar.specs.Asking.{ask}
use Rattle.grammar.specs.Items.{world_byte, most_rules, most_bytes}
use Rattle.grammar.specs.Texts.{total}
use Rattle.books.specs.declared.faults.WriteFault.{WriteFault}
use Rattle.books.specs.declared.faults.WriteFault.TheVariants.{Rules, Bytes, Room}

-- one rule after the other
abbrev pub joined : List (List ℕ) → List ℕ
joined [] = []
joined (t ∷ ts) = t ++ joined ts

-- the rules in world 0
abbrev pub book_of : List (List ℕ) → List ℕ
book_of ts = world_byte ∷ 0 ∷ joined ts

-- how many bytes that is
abbrev pub book_size : List (List ℕ) → ℕ
book_size ts = 2 + total ts

-- are there at most 1,024 rules, and with the world at most 16,384 bytes?
abbrev pub sized : List (List ℕ) → Result ℕ WriteFault
sized ts =
    ask (nat_le (length ts) most_rules) Rules
    (ask (nat_le (book_size ts) most_bytes) Bytes
    (Ok (book_size ts)))

-- do they fit into so many bytes?
abbrev pub fitted : ℕ → Result ℕ WriteFault → Result ℕ WriteFault
fitted room (Ok n) = ask (nat_le n room) Room (Ok n)
fitted room (Err e) = Err e

-- the number of bytes written into a buffer of this length
abbrev pub written : List (List ℕ) → ℕ → Result ℕ WriteFault
written ts room = fitted room (sized ts)

-- the buffer after that: bytes beyond stay, and a refusal leaves every byte
abbrev pub filled : {E : Type 0} → Result ℕ E → List ℕ → List ℕ → List ℕ
filled (Ok n) bs out = bs ++ drop n out
filled (Err e) bs out = out

abbrev pub after_writing : List (List ℕ) → List ℕ → List ℕ
after_writing ts out = filled (written ts (length out)) (book_of ts) out

abbrev pub write_number : WriteFault → ℕ
write_number Rules = 13
write_number Bytes = 14
write_number Room = 17

-- what is printed of a fault
abbrev pub write_text : WriteFault → List ℕ
write_text e = decimal (write_number e)
