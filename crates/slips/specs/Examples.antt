-- Worked examples of answers, slips and the checker, by computation. Assumes nothing.
use Rattle.std.specs.Prelude.{◌≡◌, ℕ, false, List, [], ◌∷◌, ◌++◌, map, take, replicate, Some, None, Ok, Err, Option}
use Rattle.terms.specs.Terms.{var, atom, pair, Rule, Query}
use Rattle.grammar.specs.declared.faults.CommandFault.TheVariants.{Operands}
use Rattle.grammar.specs.declared.faults.RuleFault.TheVariants.{Command}
use Rattle.grammar.specs.Encodings.{rule_bytes, query_bytes}
use Rattle.resolution.specs.declared.Stop.TheVariants.{Deep, Cells}
use Rattle.resolution.specs.declared.Word.{Word}
use Rattle.resolution.specs.declared.Word.TheVariants.{Answer, Spent, Stopped, NoMore}
use Rattle.resolution.specs.declared.Refusal.TheVariants.{Allowance}
use Rattle.resolution.specs.Rules.{rule}
use Rattle.resolution.specs.Examples.{list_of_3, fact, chain, from_5, before_7, twins, inside_itself, no_goals, circle, ask_circle}
use Rattle.slips.specs.declared.faults.OpeningFault.{OpeningFault}
use Rattle.slips.specs.declared.faults.WriteRefusal.TheVariants.{NoAnswer, NoRoom}
use Rattle.slips.specs.declared.faults.SlipFault.TheVariants.{Reading, TooManySteps}
use Rattle.slips.specs.declared.faults.CheckFault.{CheckFault}
use Rattle.slips.specs.declared.faults.CheckFault.TheVariants.{InSlip}
use Rattle.slips.specs.Opening.{opening}
use Rattle.slips.specs.Runs.{to_next, to_rewind, to_tally, to_hold, to_answer, to_slip, Reply, told, rewound, tallied, held, wrote, run}
use Rattle.slips.specs.Checker.{has_rule, steps, check}
use Rattle.slips.specs.Refusals.{check_number, check_place, check_layer, check_steps, opening_number, opening_place, opening_layer}

-- next said a word after so many tries
abbrev pub says : Word → ℕ → Reply
says w n = told (Ok (record { word = w; tries = n }))

-- number, place, layer and steps of the checker's refusal
abbrev pub Refused : List Rule → List ℕ → List ℕ → ℕ → ℕ → ℕ → Option ℕ → Type 0
Refused rs query slip number place layer steps =
    (e : CheckFault) × (check rs query slip ≡ Err e) × (check_number e ≡ number) × (check_place e ≡ place) × (check_layer e ≡ layer) × (check_steps e ≡ steps)

-- what opening is refused with: number, place and layer
abbrev pub Unopened : List (List ℕ) → List ℕ → ℕ → Option ℕ → Option ℕ → Type 0
Unopened texts query number place layer =
    (e : OpeningFault) × (opening texts query ≡ Err e) × (opening_number e ≡ number) × (opening_place e ≡ place) × (opening_layer e ≡ layer)

-- the answer and the slip of the first way from 5
abbrev pub to_6 : List ℕ
to_6 = 0x20 ∷ 0x01 ∷ 0x01 ∷ 0x00 ∷ 0x06 ∷ []

abbrev pub slip_to_6 : List ℕ
slip_to_6 =
    0x20 ∷ 0x01 ∷ 0x01 ∷ 0x00 ∷ 0x06 ∷ 0x21 ∷ 0x00 ∷ 0x02 ∷ 0x02 ∷ 0x01 ∷ 0x00 ∷ 0x05 ∷ 0x01 ∷ 0x00 ∷ 0x06 ∷ 0x21 ∷ 0x00 ∷ 0x00 ∷ 0x00 ∷ 0x2F ∷ []

-- the same with other bytes from its second step on
abbrev pub with_second : List ℕ → List ℕ
with_second bs = take 15 slip_to_6 ++ bs

-- the query that asks for a term and itself, by two variables
abbrev pub pairs : Query
pairs = record { variables = 2; goals = list_of_3 (atom 4) (var 0) (var 1) ∷ [] }

-- a chain of terms that are all the same, so that the slip names one unknown in each step
abbrev pub same_again : Rule
same_again = record { variables = 2; head = list_of_3 (atom 7) (var 1) (var 0); goals = list_of_3 (atom 4) (var 0) (var 1) ∷ [] }

abbrev pub same_query : Query
same_query = record { variables = 2; goals = list_of_3 (atom 7) (var 0) (pair (var 1) (atom 9)) ∷ [] }

-- a rule that puts its first variable into a pair, and the query that meets it with two variables
abbrev pub boxed : Rule
boxed = record { variables = 2; head = list_of_3 (atom 7) (pair (atom 1) (var 0)) (var 1); goals = [] }

abbrev pub boxed_query : Query
boxed_query = record { variables = 2; goals = list_of_3 (atom 7) (var 0) (var 1) ∷ [] }

-- the slips of the second way from 5, and of the way to what is before 7
abbrev pub slip_to_7 : List ℕ
slip_to_7 =
    0x20 ∷ 0x01 ∷ 0x01 ∷ 0x00 ∷ 0x07 ∷ 0x21 ∷ 0x00 ∷ 0x03 ∷ 0x03 ∷ 0x01 ∷ 0x00 ∷ 0x05 ∷ 0x01 ∷ 0x00 ∷ 0x07 ∷ 0x01 ∷ 0x00 ∷ 0x06
    ∷ 0x21 ∷ 0x00 ∷ 0x00 ∷ 0x00 ∷ 0x21 ∷ 0x00 ∷ 0x02 ∷ 0x02 ∷ 0x01 ∷ 0x00 ∷ 0x06 ∷ 0x01 ∷ 0x00 ∷ 0x07 ∷ 0x21 ∷ 0x00 ∷ 0x01 ∷ 0x00 ∷ 0x2F ∷ []

abbrev pub slip_before_7 : List ℕ
slip_before_7 = take 19 slip_to_6 ++ (0x21 ∷ 0x00 ∷ 0x01 ∷ 0x00 ∷ 0x2F ∷ [])

-- answers and slips in the buffers of calls
pub record Written : Type 0 where
  pub rule_in_bytes :
      rule_bytes (rule chain 0)
      ≡ 0x10 ∷ 0x00 ∷ 0x00 ∷ 0x00 ∷ 0x0F ∷ 0x03 ∷ 0x01 ∷ 0x00 ∷ 0x02 ∷ 0x03 ∷ 0x01 ∷ 0x00 ∷ 0x05 ∷ 0x03 ∷ 0x01 ∷ 0x00 ∷ 0x06 ∷ 0x01 ∷ 0x00 ∷ 0x00 ∷ []
  pub path :
      run chain from_5
      (to_hold ∷ to_answer (1 ∷ []) ∷ to_next 1000 ∷ to_hold ∷ to_answer (7 ∷ 7 ∷ 7 ∷ 7 ∷ 7 ∷ 8 ∷ 9 ∷ []) ∷ to_answer (7 ∷ 7 ∷ 7 ∷ 7 ∷ []) ∷ to_next 1000001
      ∷ to_slip (replicate 22 7) ∷ to_slip (replicate 20 7) ∷ to_slip (replicate 19 7) ∷ to_tally ∷ to_next 1000 ∷ to_next 1000 ∷ to_slip [] ∷ to_hold ∷ to_rewind ∷ to_next 4 ∷ to_answer (replicate 5 7) ∷ [])
      ≡ held (Err NoAnswer)
      ∷ wrote (Err NoAnswer) (1 ∷ [])
      ∷ says Answer 4
      ∷ held (Ok tt)
      ∷ wrote (Ok 5) (to_6 ++ (8 ∷ 9 ∷ []))
      ∷ wrote (Err NoRoom) (7 ∷ 7 ∷ 7 ∷ 7 ∷ [])
      ∷ told (Err Allowance)
      ∷ wrote (Ok 20) (slip_to_6 ++ (7 ∷ 7 ∷ []))
      ∷ wrote (Ok 20) slip_to_6
      ∷ wrote (Err NoRoom) (replicate 19 7)
      ∷ tallied (record { tries = 4; answers = 1; steps = 2; cells = 3 })
      ∷ says Answer 10
      ∷ says NoMore 22
      ∷ wrote (Err NoAnswer) []
      ∷ held (Err NoAnswer)
      ∷ rewound
      ∷ says Answer 4
      ∷ wrote (Ok 5) to_6
      ∷ []
  pub second_slip :
      run chain from_5 (to_next 1000 ∷ to_next 1000 ∷ to_slip (replicate 37 0) ∷ to_answer (replicate 5 0) ∷ [])
      ≡ says Answer 4 ∷ says Answer 10 ∷ wrote (Ok 37) slip_to_7 ∷ wrote (Ok 5) (take 5 slip_to_7) ∷ []
  pub two_goals_slip : run chain before_7 (to_next 1000 ∷ to_slip (replicate 24 0) ∷ []) ≡ says Answer 6 ∷ wrote (Ok 24) slip_before_7 ∷ []
  pub one_unknown :
      run twins pairs (to_next 1000 ∷ to_answer (replicate 8 0) ∷ [])
      ≡ says Answer 1 ∷ wrote (Ok 8) (0x20 ∷ 0x02 ∷ 0x04 ∷ 0x00 ∷ 0x00 ∷ 0x04 ∷ 0x00 ∷ 0x00 ∷ []) ∷ []
  pub by_first_appearance :
      run (boxed ∷ []) boxed_query (to_next 1000 ∷ to_answer (replicate 12 0) ∷ to_slip (replicate 23 0) ∷ [])
      ≡ says Answer 1
      ∷ wrote (Ok 12) (0x20 ∷ 0x02 ∷ 0x03 ∷ 0x01 ∷ 0x00 ∷ 0x01 ∷ 0x04 ∷ 0x00 ∷ 0x00 ∷ 0x04 ∷ 0x00 ∷ 0x01 ∷ [])
      ∷ wrote (Ok 23)
      (0x20 ∷ 0x02 ∷ 0x03 ∷ 0x01 ∷ 0x00 ∷ 0x01 ∷ 0x04 ∷ 0x00 ∷ 0x00 ∷ 0x04 ∷ 0x00 ∷ 0x01
      ∷ 0x21 ∷ 0x00 ∷ 0x00 ∷ 0x02 ∷ 0x04 ∷ 0x00 ∷ 0x00 ∷ 0x04 ∷ 0x00 ∷ 0x01 ∷ 0x2F ∷ [])
      ∷ []
  pub unknowns_over_the_slip :
      run (same_again ∷ twins) same_query (to_next 1000 ∷ to_slip (replicate 42 0) ∷ [])
      ≡ says Answer 3
      ∷ wrote (Ok 42)
      (0x20 ∷ 0x02 ∷ 0x03 ∷ 0x04 ∷ 0x00 ∷ 0x00 ∷ 0x01 ∷ 0x00 ∷ 0x09 ∷ 0x04 ∷ 0x00 ∷ 0x00
      ∷ 0x21 ∷ 0x00 ∷ 0x00 ∷ 0x02 ∷ 0x03 ∷ 0x04 ∷ 0x00 ∷ 0x00 ∷ 0x01 ∷ 0x00 ∷ 0x09 ∷ 0x03 ∷ 0x04 ∷ 0x00 ∷ 0x00 ∷ 0x01 ∷ 0x00 ∷ 0x09
      ∷ 0x21 ∷ 0x00 ∷ 0x01 ∷ 0x01 ∷ 0x03 ∷ 0x04 ∷ 0x00 ∷ 0x00 ∷ 0x01 ∷ 0x00 ∷ 0x09 ∷ 0x2F ∷ [])
      ∷ []
  pub no_goal :
      run [] no_goals (to_next 0 ∷ to_answer (replicate 5 0) ∷ to_next 0 ∷ [])
      ≡ says Answer 0 ∷ wrote (Ok 5) (0x20 ∷ 0x01 ∷ 0x04 ∷ 0x00 ∷ 0x00 ∷ []) ∷ says NoMore 0 ∷ []
  pub inside_itself_fails : run twins inside_itself (to_next 1000 ∷ []) ≡ says NoMore 1 ∷ []

-- the limits of the search
pub record Limited : Type 0 where
  pub spent_at_512 : run (circle 5 0 ∷ []) (ask_circle 5 0) (to_next 512 ∷ []) ≡ says Spent 512 ∷ []
  pub deep_at_513 : run (circle 5 0 ∷ []) (ask_circle 5 0) (to_next 513 ∷ to_hold ∷ []) ≡ says (Stopped Deep) 512 ∷ held (Err NoAnswer) ∷ []
  pub cells_after_32 : run (circle 6 64 ∷ []) (ask_circle 6 0) (to_next 1000 ∷ []) ≡ says (Stopped Cells) 32 ∷ []
  pub cells_after_31 : run (circle 6 64 ∷ []) (ask_circle 6 1) (to_next 1000 ∷ []) ≡ says (Stopped Cells) 31 ∷ []

-- what the checker says of slips
pub record Checked : Type 0 where
  pub passes : check chain (query_bytes from_5) slip_to_6 ≡ Ok tt
  pub second_passes : check chain (query_bytes from_5) slip_to_7 ≡ Ok tt
  pub two_goals_pass : check chain (query_bytes before_7) slip_before_7 ≡ Ok tt
  pub any_unknowns : check (boxed ∷ []) (query_bytes boxed_query)
      (0x20 ∷ 0x02 ∷ 0x03 ∷ 0x01 ∷ 0x00 ∷ 0x01 ∷ 0x04 ∷ 0xFF ∷ 0xFF ∷ 0x04 ∷ 0x00 ∷ 0x05 ∷ 0x21 ∷ 0x00 ∷ 0x00 ∷ 0x02 ∷ 0x04 ∷ 0xFF ∷ 0xFF ∷ 0x04 ∷ 0x00 ∷ 0x05 ∷ 0x2F ∷ []) ≡ Ok tt
  pub cut : Refused chain (query_bytes from_5) (take 19 slip_to_6) 23 19 4 (Some 2)
  pub other_rule : Refused chain (query_bytes from_5) (with_second (0x21 ∷ 0x00 ∷ 0x01 ∷ 0x00 ∷ 0x2F ∷ [])) 22 15 4 (Some 1)
  pub goals_in_order :
      Refused chain (query_bytes before_7) (take 15 slip_to_6 ++ (0x21 ∷ 0x00 ∷ 0x01 ∷ 0x00 ∷ 0x21 ∷ 0x00 ∷ 0x00 ∷ 0x00 ∷ 0x2F ∷ [])) 22 15 4 (Some 1)
  pub other_unknown : Refused (boxed ∷ []) (query_bytes boxed_query)
      (0x20 ∷ 0x02 ∷ 0x03 ∷ 0x01 ∷ 0x00 ∷ 0x01 ∷ 0x04 ∷ 0x00 ∷ 0x04 ∷ 0x04 ∷ 0x00 ∷ 0x05 ∷ 0x21 ∷ 0x00 ∷ 0x00 ∷ 0x02 ∷ 0x04 ∷ 0x00 ∷ 0x05 ∷ 0x04 ∷ 0x00 ∷ 0x05 ∷ 0x2F ∷ []) 22 12 4 (Some 0)
  pub query_first : Refused chain [] [] 2 0 3 None
  pub no_slip : Refused chain (query_bytes from_5) [] 18 0 4 (Some 0)
  pub opening_alone : Refused chain (query_bytes from_5) (0x20 ∷ []) 18 0 4 (Some 0)
  pub other_count : Refused chain (query_bytes from_5) (0x20 ∷ 0x02 ∷ []) 18 0 4 (Some 0)
  pub term_missing : Refused chain (query_bytes from_5) (0x20 ∷ 0x01 ∷ 0x03 ∷ 0x01 ∷ 0x00 ∷ 0x06 ∷ []) 8 6 2 (Some 0)
  pub no_term : Refused chain (query_bytes from_5) (0x20 ∷ 0x01 ∷ 0x02 ∷ 0x00 ∷ []) 9 2 1 (Some 0)
  pub short_term : Refused chain (query_bytes from_5) (0x20 ∷ 0x01 ∷ 0x04 ∷ 0x00 ∷ []) 3 2 1 (Some 0)
  pub no_step : Refused chain (query_bytes from_5) (with_second (0x2F ∷ [])) 19 15 4 (Some 1)
  pub no_step_at_end : Refused chain (query_bytes from_5) (take 15 slip_to_6) 19 15 4 (Some 1)
  pub short_step : Refused chain (query_bytes from_5) (with_second (0x21 ∷ 0x00 ∷ 0x00 ∷ [])) 3 15 1 (Some 1)
  pub no_such_rule : Refused chain (query_bytes from_5) (with_second (0x21 ∷ 0x00 ∷ 0x04 ∷ 0x00 ∷ 0x2F ∷ [])) 21 15 4 (Some 1)
  pub other_variables : Refused chain (query_bytes from_5) (with_second (0x21 ∷ 0x00 ∷ 0x00 ∷ 0x01 ∷ 0x05 ∷ [])) 21 15 4 (Some 1)
  pub term_missing_in_step : Refused chain (query_bytes from_5) (with_second (0x21 ∷ 0x00 ∷ 0x02 ∷ 0x02 ∷ [])) 8 19 2 (Some 1)
  pub bytes_after_end : Refused chain (query_bytes from_5) (slip_to_6 ++ (0x2F ∷ [])) 23 19 4 (Some 2)
  pub last_number : (rs : List Rule) (v : ℕ) → has_rule rs 65535 v ≡ false

-- the last step that is allowed, and one more: the questions from the place 0 of a slip on, after so many steps
pub record Long : Type 0 where
  pub last_step_allowed : steps (fact (atom 5) ∷ []) (0x21 ∷ 0x00 ∷ 0x00 ∷ 0x00 ∷ 0x2F ∷ []) 1 511 0 (atom 5 ∷ []) ≡ Ok tt
  pub one_step_more :
      steps (fact (atom 5) ∷ []) (0x21 ∷ 0x00 ∷ 0x00 ∷ 0x00 ∷ 0x21 ∷ 0x00 ∷ 0x00 ∷ 0x00 ∷ 0x2F ∷ []) 1 511 0 (atom 5 ∷ atom 5 ∷ [])
      ≡ Err (InSlip (TooManySteps 4) 512)
  pub steps_before_rule : steps [] (0x21 ∷ 0x00 ∷ 0x00 ∷ 0x00 ∷ []) 0 512 0 (atom 5 ∷ []) ≡ Err (InSlip (TooManySteps 0) 512)
  pub operands_before_steps : steps [] (0x21 ∷ 0x00 ∷ 0x00 ∷ []) 0 512 0 (atom 5 ∷ []) ≡ Err (InSlip (Reading (Command (Operands 0))) 512)
  pub end_after_last : steps [] (0x2F ∷ []) 0 512 0 [] ≡ Ok tt

-- what opening says
pub record OpeningTold : Type 0 where
  pub opens : opening (map rule_bytes chain) (query_bytes from_5) ≡ Ok (record { rules = chain; query = from_5 })
  pub no_query : Unopened [] [] 2 (Some 0) (Some 3)
  pub query_before_rules : Unopened (replicate 1025 []) [] 2 (Some 0) (Some 3)
  pub rules_counted : Unopened (replicate 1025 []) (query_bytes no_goals) 13 None None
  pub rules_before_bytes : Unopened (replicate 1025 (replicate 17 0)) (query_bytes no_goals) 13 None None
  pub most_bytes_fit : opening (replicate 1 (replicate 16379 0)) (query_bytes no_goals) ≡ Ok (record { rules = record { variables = 0; head = atom 0; goals = [] } ∷ []; query = no_goals })
  pub bytes_counted : Unopened (replicate 1 (replicate 16380 0)) (query_bytes no_goals) 14 None None

-- all of it
pub record Worked : Type 0 where
  pub written : Written
  pub limited : Limited
  pub checked : Checked
  pub long : Long
  pub opening_told : OpeningTold
