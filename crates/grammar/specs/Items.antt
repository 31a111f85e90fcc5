-- Reading a book. Assumes nothing.
use Rattle.std.specs.Prelude.{ℕ, zero, suc, ◌+◌, cond, List, [], ◌∷◌, length, Ok, Err, Result, ◌==◌, nat_le, nat_lt}
use Rattle.terms.specs.Terms.{Rule}
use Rattle.grammar.specs.declared.faults.CommandFault.TheVariants.{Operands}
use Rattle.grammar.specs.declared.faults.RuleFault.TheVariants.{Command}
use Rattle.grammar.specs.declared.faults.BookFault.{BookFault}
use Rattle.grammar.specs.declared.faults.BookFault.TheVariants.{Rule as InRule, World, TooLong, NoItem, TooManyRules}
use Rattle.grammar.specs.Asking.{ask, go}
use Rattle.grammar.specs.Singles.{rule_byte, header, body, rule_due, rule_of}

-- the most bytes and the most rules that a book may have
abbrev pub most_bytes : ℕ
most_bytes = 16384

abbrev pub most_rules : ℕ
most_rules = 1024

-- the first byte of a world
abbrev pub world_byte : ℕ
world_byte = 0x11

-- a book is a row of worlds and rules; a world covers the rules after it
pub data Item : Type 0 where
  world : ℕ → Item
  rule : Rule → Item

-- the item at p, after n rules, by the bytes after its first, and how many of those belong to it
abbrev pub world_item : ℕ → List ℕ → Result (Item × ℕ) BookFault
world_item p [] = Err (World (Operands p))
world_item p (w ∷ bs) = Ok (world w, 1)

abbrev pub rule_item : ℕ → ℕ → List ℕ → Result (Item × ℕ) BookFault
rule_item n p bs =
    go (header p bs) (λ e. InRule n (Command e)) (λ h.
    ask (nat_lt n most_rules) (TooManyRules p n)
    (go (body (rule_due h) p h) (InRule n) (λ ts.
    Ok (rule (rule_of h.variables ts), 4 + h.size))))

-- the same, by its first byte: is it a rule or a world?
abbrev pub item : ℕ → ℕ → ℕ → List ℕ → Result (Item × ℕ) BookFault
item n p b bs =
    cond (b == rule_byte) (rule_item n p bs)
    (cond (b == world_byte) (world_item p bs)
    (Err (NoItem p)))

-- how many rules an item is
abbrev pub counts : Item → ℕ
counts (world w) = 0
counts (rule r) = 1

abbrev pub with_item : Item → Result (List Item) BookFault → Result (List Item) BookFault
with_item i (Ok is) = Ok (i ∷ is)
with_item i (Err e) = Err e

-- the items of the bytes from the place p on, after n rules; the first k bytes belong to the item before
abbrev pub items_past : ℕ → ℕ → ℕ → List ℕ → Result (List Item) BookFault
items_past n (suc k) p [] = Ok []
items_past n (suc k) p (b ∷ bs) = items_past n k (p + 1) bs
items_past n zero p [] = Ok []
items_past n zero p (b ∷ bs) =
    go (item n p b bs) (λ e. e) (λ i. with_item i.0 (items_past (n + counts i.0) i.1 (p + 1) bs))

-- is the book too long, and then its items
abbrev pub book : List ℕ → Result (List Item) BookFault
book bs = ask (nat_le (length bs) most_bytes) TooLong (items_past 0 0 0 bs)

-- the rules of a book, in the order of its bytes
abbrev pub rules : List Item → List Rule
rules [] = []
rules (world w ∷ is) = rules is
rules (rule r ∷ is) = r ∷ rules is
