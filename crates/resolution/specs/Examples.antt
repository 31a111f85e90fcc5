-- Worked examples of the search, by computation. Assumes nothing.
use Rattle.std.specs.Prelude.{◌≡◌, ℕ, List, [], ◌∷◌, ◌++◌, map, replicate, Ok, Err}
use Rattle.terms.specs.Terms.{Term, var, atom, pair, Rule, Query}
use Rattle.resolution.specs.declared.Stop.TheVariants.{Deep, Cells}
use Rattle.resolution.specs.declared.Word.{Word}
use Rattle.resolution.specs.declared.Word.TheVariants.{Answer, Spent, Stopped, NoMore}
use Rattle.resolution.specs.declared.Refusal.TheVariants.{Allowance}
use Rattle.resolution.specs.declared.Tally.{Tally}
use Rattle.resolution.specs.Lines.{Place, rules_taken}
use Rattle.resolution.specs.Search.{running, Search, opened, next, tally}
use Rattle.resolution.specs.Calls.{at_tally, seen_tally, Call, ask_next, ask_rewind, ask, Reply, said, restored, saw, session, run}

-- the list of the terms a, and of a, b and c, which ends in atom 0
abbrev pub list_of_1 : Term → Term
list_of_1 a = pair a (atom 0)

abbrev pub list_of_3 : Term → Term → Term → Term
list_of_3 a b c = pair a (pair b (pair c (atom 0)))

-- a rule without goals that declares v variables, and one that declares none
abbrev pub wide : Term → ℕ → Rule
wide t v = record { variables = v; head = t; goals = [] }

abbrev pub fact : Term → Rule
fact t = wide t 0

-- 5 is before 6, 6 before 7; reached in one step or in several
abbrev pub chain : List Rule
chain =
    fact (list_of_3 (atom 2) (atom 5) (atom 6))
    ∷ fact (list_of_3 (atom 2) (atom 6) (atom 7))
    ∷ record { variables = 2; head = list_of_3 (atom 3) (var 0) (var 1); goals = list_of_3 (atom 2) (var 0) (var 1) ∷ [] }
    ∷ record {
      variables = 3;
      head = list_of_3 (atom 3) (var 0) (var 1);
      goals = list_of_3 (atom 2) (var 0) (var 2) ∷ list_of_3 (atom 3) (var 2) (var 1) ∷ [];
    }
    ∷ []

abbrev pub from_5 : Query
from_5 = record { variables = 1; goals = list_of_3 (atom 3) (atom 5) (var 0) ∷ [] }

-- from 5 to a term that is before 7
abbrev pub before_7 : Query
before_7 = record { variables = 1; goals = list_of_3 (atom 3) (atom 5) (var 0) ∷ list_of_3 (atom 2) (var 0) (atom 7) ∷ [] }

-- a term and the next
abbrev pub neighbours : Query
neighbours = record { variables = 2; goals = list_of_3 (atom 2) (var 0) (var 1) ∷ [] }

-- a term and itself
abbrev pub twins : List Rule
twins = record { variables = 1; head = list_of_3 (atom 4) (var 0) (var 0); goals = [] } ∷ []

abbrev pub inside_itself : Query
inside_itself = record { variables = 1; goals = list_of_3 (atom 4) (var 0) (pair (atom 1) (var 0)) ∷ [] }

abbrev pub no_goals : Query
no_goals = record { variables = 1; goals = [] }

-- a rule whose goal is its head, and which declares v variables that it does not name
abbrev pub circle : ℕ → ℕ → Rule
circle a v = record { variables = v; head = list_of_1 (atom a); goals = list_of_1 (atom a) ∷ [] }

abbrev pub ask_circle : ℕ → ℕ → Query
ask_circle a v = record { variables = v; goals = list_of_1 (atom a) ∷ [] }

-- next said the word after so many tries
abbrev pub says : Word → ℕ → Reply
says w n = said (Ok (record { word = w; tries = n }))

-- tally told these counts
abbrev pub counts : Tally → Reply
counts t = saw (seen_tally t)

-- calls of next with these allowances
abbrev pub nexts : List ℕ → List Call
nexts = map ask_next

-- the cells, and the rule numbers, of the answers given, newest answer first
abbrev pub cells_given : List Rule → Query → List ℕ → List (List Term)
cells_given rs q allowances = map (λ (p : Place). p.cells) (session rs q (nexts allowances)).given

abbrev pub answered : List Rule → Query → List ℕ → List (List ℕ)
answered rs q allowances = map (λ (p : Place). rules_taken p.branch) (session rs q (nexts allowances)).given

-- a search whose counts stand at n
abbrev pub counted : ℕ → Query → Search
counted n q = record { condition = running; place = (opened q).place; tries = n; answers = n }

pub record Worked : Type 0 where
  pub path :
      run chain from_5 (nexts (1000000 ∷ 1000 ∷ 1000 ∷ 0 ∷ 1000001 ∷ []))
      ≡ says Answer 4 ∷ says Answer 10 ∷ says NoMore 22 ∷ says NoMore 0 ∷ said (Err Allowance) ∷ []
  pub path_rules : answered chain from_5 (1000 ∷ 1000 ∷ 1000 ∷ []) ≡ (3 ∷ 0 ∷ 2 ∷ 1 ∷ []) ∷ (2 ∷ 0 ∷ []) ∷ []
  pub path_cells : cells_given chain from_5 (1000 ∷ []) ≡ (atom 6 ∷ atom 5 ∷ atom 6 ∷ []) ∷ []
  pub path_parts :
      run chain from_5 (nexts (3 ∷ 0 ∷ 1 ∷ 9 ∷ 1 ∷ 21 ∷ 1 ∷ []))
      ≡ says Spent 3 ∷ says Spent 0 ∷ says Answer 1 ∷ says Spent 9 ∷ says Answer 1 ∷ says Spent 21 ∷ says NoMore 1 ∷ []
  pub path_tallies :
      run chain from_5 (ask at_tally ∷ ask_next 4 ∷ ask at_tally ∷ ask_next 1000001 ∷ ask_next 10 ∷ ask at_tally ∷ ask_rewind ∷ ask at_tally ∷ ask_next 4 ∷ [])
      ≡ counts (record { tries = 0; answers = 0; steps = 0; cells = 1 })
      ∷ says Answer 4
      ∷ counts (record { tries = 4; answers = 1; steps = 2; cells = 3 })
      ∷ said (Err Allowance)
      ∷ says Answer 10
      ∷ counts (record { tries = 14; answers = 2; steps = 4; cells = 6 })
      ∷ restored
      ∷ counts (record { tries = 0; answers = 0; steps = 0; cells = 1 })
      ∷ says Answer 4
      ∷ []
  pub second_goal : run chain before_7 (nexts (1000 ∷ 1000 ∷ [])) ≡ says Answer 6 ∷ says NoMore 38 ∷ []
  pub second_goal_rules : answered chain before_7 (1000 ∷ []) ≡ (2 ∷ 0 ∷ 1 ∷ []) ∷ []
  pub bindings_undone : cells_given chain neighbours (1 ∷ 1 ∷ []) ≡ (atom 6 ∷ atom 7 ∷ []) ∷ (atom 5 ∷ atom 6 ∷ []) ∷ []
  pub occurs_in_it : run twins inside_itself (nexts (1000 ∷ [])) ≡ says NoMore 1 ∷ []
  pub nothing_to_show : run [] no_goals (nexts (0 ∷ 0 ∷ 0 ∷ [])) ≡ says Answer 0 ∷ says NoMore 0 ∷ says NoMore 0 ∷ []
  pub spent_at_512 : run (circle 5 0 ∷ []) (ask_circle 5 0) (nexts (512 ∷ [])) ≡ says Spent 512 ∷ []
  pub deep_at_513 :
      run (circle 5 0 ∷ []) (ask_circle 5 0) (nexts (513 ∷ 513 ∷ 0 ∷ 1000001 ∷ []))
      ≡ says (Stopped Deep) 512 ∷ says (Stopped Deep) 0 ∷ says (Stopped Deep) 0 ∷ said (Err Allowance) ∷ []
  pub answer_at_512_steps :
      run (fact (atom 5) ∷ []) (record { variables = 0; goals = replicate 512 (atom 5) }) (nexts (512 ∷ 0 ∷ []))
      ≡ says Answer 512 ∷ says NoMore 0 ∷ []
  pub cells_after_32 : run (circle 6 64 ∷ []) (ask_circle 6 0) (nexts (1000 ∷ [])) ≡ says (Stopped Cells) 32 ∷ []
  pub cells_after_31 : run (circle 6 64 ∷ []) (ask_circle 6 1) (nexts (1000 ∷ [])) ≡ says (Stopped Cells) 31 ∷ []
  pub deep_before_cells :
      run (wide (atom 9) 2048 ∷ fact (atom 5) ∷ wide (atom 6) 1 ∷ []) (record { variables = 0; goals = replicate 511 (atom 5) ++ (atom 6 ∷ atom 5 ∷ []) }) (nexts (2000 ∷ []))
      ≡ says (Stopped Deep) 1025 ∷ []
  pub tries_held : (tally (next chain 3 (counted 4294967293 from_5)).search).tries ≡ 4294967295
  pub answers_held : (tally (next chain 4 (counted 4294967295 from_5)).search).answers ≡ 4294967295
