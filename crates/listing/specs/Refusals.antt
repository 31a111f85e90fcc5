-- The number and the place of a fault, and what is printed of it. Assumes nothing.
use Rattle.std.specs.Prelude.{ℕ, List, ◌++◌, codes, unwrap_or}
use Rattle.std.specs.Fmt.{decimal}
use Rattle.grammar.specs.Refusals.{book_number, book_place}
use Rattle.resolution.specs.Limits.{refusal_number}
use Rattle.slips.specs.Refusals.{opening_number, opening_place, write_number}
use Rattle.listing.specs.declared.faults.Fault.{Fault}
use Rattle.listing.specs.declared.faults.Fault.TheVariants.{Book, Opening, Call, Writing}

abbrev pub fault_number : Fault → ℕ
fault_number (Book e) = book_number e
fault_number (Opening e) = opening_number e
fault_number (Call e) = refusal_number e
fault_number (Writing e) = write_number e

-- 0 where there is none
abbrev pub fault_place : Fault → ℕ
fault_place (Book e) = book_place e
fault_place (Opening e) = unwrap_or (opening_place e) 0
fault_place (Call e) = 0
fault_place (Writing e) = 0

abbrev pub fault_text : Fault → List ℕ
fault_text e = decimal (fault_number e) ++ codes "," ++ decimal (fault_place e)
