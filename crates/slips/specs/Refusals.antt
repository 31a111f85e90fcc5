-- The number, place, layer and steps of each refusal, and what is printed of it. Assumes nothing.
use Rattle.std.specs.Prelude.{ℕ, List, ◌++◌, codes, Some, None, Option}
use Rattle.std.specs.Fmt.{decimal}
use Rattle.grammar.specs.Refusals.{rule_number, rule_place, rule_layer, single_number, single_place, single_layer, or_dash, fault_text}
use Rattle.slips.specs.declared.faults.OpeningFault.{OpeningFault}
use Rattle.slips.specs.declared.faults.OpeningFault.TheVariants.{InQuery as QueryUnfit, TooManyRules, TooManyBytes}
use Rattle.slips.specs.declared.faults.WriteRefusal.{WriteRefusal}
use Rattle.slips.specs.declared.faults.WriteRefusal.TheVariants.{NoAnswer, NoRoom}
use Rattle.slips.specs.declared.faults.SlipFault.{SlipFault}
use Rattle.slips.specs.declared.faults.SlipFault.TheVariants.{Reading, Opening, NoStep, TooManySteps, NoRule, OtherGoal, NoEnd}
use Rattle.slips.specs.declared.faults.CheckFault.{CheckFault}
use Rattle.slips.specs.declared.faults.CheckFault.TheVariants.{InQuery, InSlip}

-- ── opening ──

abbrev pub opening_number : OpeningFault → ℕ
opening_number (QueryUnfit e) = single_number e
opening_number TooManyRules = 13
opening_number TooManyBytes = 14

-- only a query's fault has a place and a layer
abbrev pub opening_place : OpeningFault → Option ℕ
opening_place (QueryUnfit e) = Some (single_place e)
opening_place TooManyRules = None
opening_place TooManyBytes = None

abbrev pub opening_layer : OpeningFault → Option ℕ
opening_layer (QueryUnfit e) = Some (single_layer e)
opening_layer TooManyRules = None
opening_layer TooManyBytes = None

abbrev pub opening_text : OpeningFault → List ℕ
opening_text e = decimal (opening_number e) ++ codes "," ++ or_dash (opening_place e) ++ codes "," ++ or_dash (opening_layer e)

-- ── hold, answer and slip ──

abbrev pub write_number : WriteRefusal → ℕ
write_number NoAnswer = 16
write_number NoRoom = 17

abbrev pub write_text : WriteRefusal → List ℕ
write_text e = decimal (write_number e)

-- ── the checker ──

abbrev pub slip_number : SlipFault → ℕ
slip_number (Reading e) = rule_number e
slip_number Opening = 18
slip_number (NoStep p) = 19
slip_number (TooManySteps p) = 20
slip_number (NoRule p) = 21
slip_number (OtherGoal p) = 22
slip_number (NoEnd p) = 23

abbrev pub slip_place : SlipFault → ℕ
slip_place (Reading e) = rule_place e
slip_place Opening = 0
slip_place (NoStep p) = p
slip_place (TooManySteps p) = p
slip_place (NoRule p) = p
slip_place (OtherGoal p) = p
slip_place (NoEnd p) = p

abbrev pub slip_layer : SlipFault → ℕ
slip_layer (Reading e) = rule_layer e
slip_layer Opening = 4
slip_layer (NoStep p) = 4
slip_layer (TooManySteps p) = 4
slip_layer (NoRule p) = 4
slip_layer (OtherGoal p) = 4
slip_layer (NoEnd p) = 4

abbrev pub slip_text : SlipFault → List ℕ
slip_text e = fault_text (slip_number e) (slip_place e) (slip_layer e)

abbrev pub check_number : CheckFault → ℕ
check_number (InQuery e) = single_number e
check_number (InSlip e n) = slip_number e

abbrev pub check_place : CheckFault → ℕ
check_place (InQuery e) = single_place e
check_place (InSlip e n) = slip_place e

abbrev pub check_layer : CheckFault → ℕ
check_layer (InQuery e) = single_layer e
check_layer (InSlip e n) = slip_layer e

abbrev pub check_text : CheckFault → List ℕ
check_text e = fault_text (check_number e) (check_place e) (check_layer e)

-- the steps completed before the fault
abbrev pub check_steps : CheckFault → Option ℕ
check_steps (InQuery e) = None
check_steps (InSlip e n) = Some n
