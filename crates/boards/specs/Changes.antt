-- How the list of rules on a board changes. Assumes nothing.
use Rattle.std.specs.Prelude.{ℕ, suc, ◌+◌, List, [], ◌∷◌, ◌++◌, length, take, drop, Some, None, Ok, Err, Option, Result, nat_le, nat_lt}
use Rattle.grammar.specs.Asking.{ask, go}
use Rattle.grammar.specs.Refusals.{single_number, single_place, single_layer}
use Rattle.grammar.specs.Singles.{rule}
use Rattle.grammar.specs.Texts.{total}
use Rattle.boards.specs.declared.faults.AddFault.{AddFault}
use Rattle.boards.specs.declared.faults.AddFault.TheVariants.{Rule, Full, Large}
use Rattle.boards.specs.declared.faults.RemoveFault.{RemoveFault}
use Rattle.boards.specs.declared.faults.RemoveFault.TheVariants.{Missing}

-- the most rules and the most bytes of a board
abbrev pub most_rules : ℕ
most_rules = 128

abbrev pub most_bytes : ℕ
most_bytes = 8192

-- are there fewer than 128 rules, and at most 8,192 bytes with the new one?
abbrev pub pushed : List (List ℕ) → List ℕ → Result (List (List ℕ)) AddFault
pushed ts t =
    ask (nat_lt (length ts) most_rules) Full
    (ask (nat_le (total ts + length t) most_bytes) Large
    (Ok (ts ++ t ∷ [])))

-- the questions for a single rule come first
abbrev pub added : List (List ℕ) → List ℕ → Result (List (List ℕ)) AddFault
added ts t = go (rule t) Rule (λ r. pushed ts t)

-- is there a rule with this number? Those after it move up.
abbrev pub removed : List (List ℕ) → ℕ → Result (List (List ℕ)) RemoveFault
removed ts i = ask (nat_lt i (length ts)) Missing (Ok (take i ts ++ drop (suc i) ts))

-- what a change returns, and the list after it: a refusal leaves the list as it was
abbrev pub said : {E : Type 0} → Result (List (List ℕ)) E → Result (Unit {0}) E
said (Ok ts) = Ok tt
said (Err e) = Err e

abbrev pub left : {E : Type 0} → Result (List (List ℕ)) E → List (List ℕ) → List (List ℕ)
left (Ok ts) before = ts
left (Err e) before = before

-- number, place and layer of a refusal: a fault of reading keeps its own, the board's have a number alone
abbrev pub add_number : AddFault → ℕ
add_number (Rule e) = single_number e
add_number Full = 24
add_number Large = 25

abbrev pub add_place : AddFault → Option ℕ
add_place (Rule e) = Some (single_place e)
add_place Full = None
add_place Large = None

abbrev pub add_layer : AddFault → Option ℕ
add_layer (Rule e) = Some (single_layer e)
add_layer Full = None
add_layer Large = None

abbrev pub remove_number : RemoveFault → ℕ
remove_number Missing = 26
