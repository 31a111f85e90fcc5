-- What a machine means: its rules, its query, and its place in the search. Assumes nothing.
use Rattle.std.specs.Prelude.{List}
use Rattle.terms.specs.Terms.{Rule, Query}
use Rattle.resolution.specs.Lines.{Place}
use Rattle.slips.specs.Opening.{Opened}
use Rattle.machine.specs.declared.machine.Machine.{Machine}
use Rattle.machine.specs.States.{State, rules_of, query_of, place_of}

-- what it stands on
abbrev pub state : Machine → State
state m = record { tables = m.tables; clauses = m.clauses.items; question = m.question; goals = m.goals; due = m.due }

abbrev pub rules : Machine → List Rule
rules m = rules_of (state m)

abbrev pub query : Machine → Query
query m = query_of (state m)

abbrev pub place : Machine → Place
place m = place_of (state m)

-- what it was opened with
abbrev pub opened_with : Machine → Opened
opened_with m = record { rules = rules m; query = query m }
