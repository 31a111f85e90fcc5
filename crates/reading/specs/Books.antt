-- A book as it is read, item by item. Assumes nothing.
use Rattle.std.specs.Prelude.{ℕ, ◌+◌, List, [], ◌∷◌, length, drop, Some, None, Ok, Err, Option, Result, nat_le, nat_lt}
use Rattle.std.specs.Option.{option_map}
use Rattle.grammar.specs.declared.faults.RuleFault.TheVariants.{Command}
use Rattle.grammar.specs.declared.faults.BookFault.{BookFault}
use Rattle.grammar.specs.declared.faults.BookFault.TheVariants.{Rule as InRule, TooLong, TooManyRules}
use Rattle.grammar.specs.Asking.{ask, go}
use Rattle.grammar.specs.Singles.{header_size, header}
use Rattle.grammar.specs.Items.{Item, world, rule, item, counts, rules, most_bytes, most_rules}
use Rattle.reading.specs.declared.books.Item.{Item as ReadItem}
use Rattle.reading.specs.declared.books.Item.TheVariants.{World as WorldItem, Rule as RuleItem}
use Rattle.reading.specs.declared.books.Book.{Book as ReadBook}
use Rattle.reading.specs.declared.rules.Rule.{Rule as ReadRule}
use Rattle.reading.specs.Views.{seen, RuleView, rule_view, rule_shown, rule_under}

-- the rule at p, after n rules, by the bytes after its first, and how many bytes it has
abbrev pub rule_item_shown : ℕ → ℕ → List ℕ → Result (RuleView × ℕ) BookFault
rule_item_shown n p bs =
    go (header p bs) (λ e. InRule n (Command e)) (λ h.
    ask (nat_lt n most_rules) (TooManyRules p n)
    (go (rule_under p h) (InRule n) (λ v. Ok (v, header_size + h.size))))

pub data ItemView : Type 0 where
  world_seen : ℕ → ℕ → ItemView
  rule_seen : RuleView → ItemView

abbrev pub item_view : ReadItem → ItemView
item_view (WorldItem w p) = world_seen w p
item_view (RuleItem r) = rule_seen (rule_view r)

-- an item of the book that stands at p
abbrev pub item_shown : ℕ → Item → ItemView
item_shown p (world w) = world_seen w p
item_shown p (rule r) = rule_seen (rule_shown p r)

pub record BookView : Type 0 where
  pub bytes : List ℕ
  pub place : ℕ
  pub rules : ℕ

abbrev pub book_view : ReadBook → BookView
book_view b = record { bytes = b.bytes.now; place = b.place; rules = b.rules }

abbrev pub opened : List ℕ → Result BookView BookFault
opened bs = ask (nat_le (length bs) most_bytes) TooLong (Ok (record { bytes = bs; place = 0; rules = 0 }))

-- the item that the bytes from p on begin with, after n rules, and how many bytes belong to it after its first; none at their end
abbrev pub first_item : ℕ → ℕ → List ℕ → Result (Option (Item × ℕ)) BookFault
first_item n p [] = Ok None
first_item n p (b ∷ bs) = go (item n p b bs) (λ e. e) (λ i. Ok (Some i))

abbrev pub shown_first : ℕ → Result (Option (Item × ℕ)) BookFault → Result (Option ItemView) BookFault
shown_first p r = seen (option_map (λ i. item_shown p i.0)) r

-- how many bytes, and how many rules, are read for a result
abbrev pub passed : Result (Option (Item × ℕ)) BookFault → ℕ
passed (Ok (Some i)) = 1 + i.1
passed (Ok None) = 0
passed (Err e) = 0

abbrev pub counted : Result (Option (Item × ℕ)) BookFault → ℕ
counted (Ok (Some i)) = counts i.0
counted (Ok None) = 0
counted (Err e) = 0

-- the book after its next item; a fault leaves it as it was
abbrev pub next_of : BookView → Result (Option (Item × ℕ)) BookFault
next_of b = first_item b.rules b.place (drop b.place b.bytes)

abbrev pub after_item : BookView → BookView
after_item b = record { bytes = b.bytes; place = b.place + passed (next_of b); rules = b.rules + counted (next_of b) }

-- how many bytes an item has, and how many rules it is
abbrev pub item_size : ItemView → ℕ
item_size (world_seen w p) = 2
item_size (rule_seen r) = 5 + length r.head + length r.body

abbrev pub item_count : ItemView → ℕ
item_count (world_seen w p) = 0
item_count (rule_seen r) = 1

-- a rule, and an item, with its number of bytes
abbrev pub sized_rule : ReadRule × ℕ → RuleView × ℕ
sized_rule x = (rule_view x.0, x.1)

abbrev pub sized_view : ReadItem × ℕ → ItemView × ℕ
sized_view x = (item_view x.0, x.1)

abbrev pub sized_shown : ℕ → Item × ℕ → ItemView × ℕ
sized_shown p i = (item_shown p i.0, 1 + i.1)

abbrev pub sized_first : ℕ → Result (Option (Item × ℕ)) BookFault → Result (Option (ItemView × ℕ)) BookFault
sized_first p r = seen (option_map (sized_shown p)) r

-- the number of rules of a book
abbrev pub rule_count : List Item → ℕ
rule_count is = length (rules is)
