-- Where the rules of a book begin. Assumes nothing.
use Rattle.std.specs.Prelude.{ℕ, ◌+◌, List, [], ◌∷◌, map, length}
use Rattle.grammar.specs.Items.{Item, world, rule, rules}
use Rattle.grammar.specs.Encodings.{rule_bytes}

-- the places of the rules among items of which the first stands at p
abbrev pub rule_places : ℕ → List Item → List ℕ
rule_places p [] = []
rule_places p (world w ∷ is) = rule_places (p + 2) is
rule_places p (rule r ∷ is) = p ∷ rule_places (p + length (rule_bytes r)) is

-- the rules among them in bytes
abbrev pub item_texts : List Item → List (List ℕ)
item_texts is = map rule_bytes (rules is)
