-- A search and the calls on it: next, rewind and tally. Assumes nothing.
use Rattle.std.specs.Prelude.{ℕ, ◌+◌, ◌-◌, min, cond, List, [], length, Ok, Err, Result, nat_le}
use Rattle.terms.specs.Terms.{Rule, Query}
use Rattle.resolution.specs.declared.Stop.{Stop}
use Rattle.resolution.specs.declared.Word.{Word}
use Rattle.resolution.specs.declared.Word.TheVariants.{Answer, Spent, Stopped, NoMore}
use Rattle.resolution.specs.declared.Outcome.{Outcome}
use Rattle.resolution.specs.declared.Refusal.{Refusal}
use Rattle.resolution.specs.declared.Refusal.TheVariants.{Allowance}
use Rattle.resolution.specs.declared.Tally.{Tally}
use Rattle.resolution.specs.Cells.{fresh}
use Rattle.resolution.specs.Limits.{allowance_limit, tally_limit}
use Rattle.resolution.specs.Lines.{Place, back, End, onward, lines}

-- running, with an answer standing, ended, or stopped for good
pub data Condition : Type 0 where
  running standing ended : Condition
  stopped : Stop → Condition

-- a search, with the tries and answers since opening or the last rewind
pub record Search : Type 0 where
  pub condition : Condition
  pub place : Place
  pub tries : ℕ
  pub answers : ℕ

-- at opening the query's variables have the first cells
abbrev pub opened : Query → Search
opened q =
    record {
      condition = running;
      place = record { goals = q.goals; due = 0; cells = fresh 0 q.variables; branch = [] };
      tries = 0;
      answers = 0;
    }

-- the condition that a word leaves
abbrev pub condition_after : Word → Condition
condition_after Answer = standing
condition_after Spent = running
condition_after (Stopped why) = stopped why
condition_after NoMore = ended

-- a count stays at its limit
abbrev pub held : ℕ → ℕ
held n = min n tally_limit

-- an answer is counted
abbrev pub answers_after : Word → ℕ → ℕ
answers_after Answer n = held (n + 1)
answers_after Spent n = n
answers_after (Stopped why) n = n
answers_after NoMore n = n

-- what a call of next returns, and the search after it
pub record Called : Type 0 where
  pub result : Result Outcome Refusal
  pub search : Search

-- the lines of a call with the allowance a came to their end
abbrev pub settled : ℕ → Search → End → Called
settled a s e =
    record {
      result = Ok (record { word = e.word; tries = a - e.left });
      search = record {
        condition = condition_after e.word;
        place = e.place;
        tries = held (s.tries + (a - e.left));
        answers = answers_after e.word s.answers;
      };
    }

-- the word is said again, without a try
abbrev pub repeated : Word → Search → Called
repeated w s = record { result = Ok (record { word = w; tries = 0 }); search = s }

abbrev pub refused : Search → Called
refused s = record { result = Err Allowance; search = s }

-- by the condition; a standing answer is left by going back
abbrev pub continued : List Rule → ℕ → Search → Condition → Called
continued rs a s running = settled a s (lines rs a s.place)
continued rs a s standing = settled a s (onward (lines rs) a s.place (back a s.place.branch))
continued rs a s ended = repeated NoMore s
continued rs a s (stopped why) = repeated (Stopped why) s

-- next with the allowance a
abbrev pub next : List Rule → ℕ → Search → Called
next rs a s =
    let allowed : Called = continued rs a s s.condition in
    cond (nat_le a allowance_limit) allowed (refused s)

-- rewind restores the state at opening
abbrev pub rewind : Query → Search → Search
rewind q s = opened q

-- the counts, and the steps and cells in use
abbrev pub tally : Search → Tally
tally s =
    record {
      tries = s.tries;
      answers = s.answers;
      steps = length s.place.branch;
      cells = length s.place.cells;
    }
