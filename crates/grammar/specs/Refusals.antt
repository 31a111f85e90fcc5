-- The number, place and layer of each fault of reading, and what is printed of it. Assumes nothing.
use Rattle.std.specs.Prelude.{ℕ, List, ◌++◌, codes, Some, None, Option}
use Rattle.std.specs.Fmt.{decimal}
use Rattle.grammar.specs.declared.faults.CommandFault.{CommandFault}
use Rattle.grammar.specs.declared.faults.CommandFault.TheVariants.{Operands, NoTerm}
use Rattle.grammar.specs.declared.faults.RuleFault.{RuleFault}
use Rattle.grammar.specs.declared.faults.RuleFault.TheVariants.{Command, Variables, Goals, Length, TermMissing, Undeclared, LengthLeft}
use Rattle.grammar.specs.declared.faults.SingleFault.{SingleFault}
use Rattle.grammar.specs.declared.faults.SingleFault.TheVariants.{Inside, Start, BytesLeft}
use Rattle.grammar.specs.declared.faults.BookFault.{BookFault}
use Rattle.grammar.specs.declared.faults.BookFault.TheVariants.{Rule, World, TooLong, NoItem, TooManyRules}

abbrev pub command_number : CommandFault → ℕ
command_number (Operands p) = 3
command_number (NoTerm p) = 9

abbrev pub command_place : CommandFault → ℕ
command_place (Operands p) = p
command_place (NoTerm p) = p

abbrev pub command_layer : CommandFault → ℕ
command_layer e = 1

abbrev pub rule_number : RuleFault → ℕ
rule_number (Command e) = command_number e
rule_number (Variables p) = 5
rule_number (Goals p) = 6
rule_number (Length p) = 7
rule_number (TermMissing p) = 8
rule_number (Undeclared p) = 10
rule_number (LengthLeft p) = 11

abbrev pub rule_place : RuleFault → ℕ
rule_place (Command e) = command_place e
rule_place (Variables p) = p
rule_place (Goals p) = p
rule_place (Length p) = p
rule_place (TermMissing p) = p
rule_place (Undeclared p) = p
rule_place (LengthLeft p) = p

abbrev pub rule_layer : RuleFault → ℕ
rule_layer (Command e) = command_layer e
rule_layer (Variables p) = 2
rule_layer (Goals p) = 2
rule_layer (Length p) = 2
rule_layer (TermMissing p) = 2
rule_layer (Undeclared p) = 2
rule_layer (LengthLeft p) = 2

abbrev pub single_number : SingleFault → ℕ
single_number (Inside e) = rule_number e
single_number (Start p) = 2
single_number (BytesLeft p) = 12

abbrev pub single_place : SingleFault → ℕ
single_place (Inside e) = rule_place e
single_place (Start p) = p
single_place (BytesLeft p) = p

abbrev pub single_layer : SingleFault → ℕ
single_layer (Inside e) = rule_layer e
single_layer (Start p) = 3
single_layer (BytesLeft p) = 3

abbrev pub book_number : BookFault → ℕ
book_number (Rule n e) = rule_number e
book_number (World e) = command_number e
book_number TooLong = 1
book_number (NoItem p) = 2
book_number (TooManyRules p n) = 4

abbrev pub book_place : BookFault → ℕ
book_place (Rule n e) = rule_place e
book_place (World e) = command_place e
book_place TooLong = 0
book_place (NoItem p) = p
book_place (TooManyRules p n) = p

abbrev pub book_layer : BookFault → ℕ
book_layer (Rule n e) = rule_layer e
book_layer (World e) = command_layer e
book_layer TooLong = 3
book_layer (NoItem p) = 3
book_layer (TooManyRules p n) = 3

-- the number of the rule in which the fault was found
abbrev pub book_rule : BookFault → Option ℕ
book_rule (Rule n e) = Some n
book_rule (World e) = None
book_rule TooLong = None
book_rule (NoItem p) = None
book_rule (TooManyRules p n) = Some n

-- a number, or a dash where there is none
abbrev pub or_dash : Option ℕ → List ℕ
or_dash None = codes "-"
or_dash (Some n) = decimal n

-- what is printed of a fault: its number, its place and its layer
abbrev pub fault_text : ℕ → ℕ → ℕ → List ℕ
fault_text n p l = decimal n ++ codes "," ++ decimal p ++ codes "," ++ decimal l
