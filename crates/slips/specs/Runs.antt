-- Lists of calls on a search, what each returns, and what its buffer then holds. Assumes nothing.
use Rattle.std.specs.Prelude.{ℕ, cond, List, [], ◌∷◌, ◌++◌, length, drop, Ok, Err, Result, nat_le}
use Rattle.terms.specs.Terms.{Rule, Query}
use Rattle.resolution.specs.declared.Outcome.{Outcome}
use Rattle.resolution.specs.declared.Refusal.{Refusal}
use Rattle.resolution.specs.declared.Tally.{Tally}
use Rattle.resolution.specs.Search.{Condition, running, standing, ended, stopped, Search, opened, next, rewind, tally}
use Rattle.slips.specs.declared.faults.WriteRefusal.{WriteRefusal}
use Rattle.slips.specs.declared.faults.WriteRefusal.TheVariants.{NoAnswer, NoRoom}
use Rattle.slips.specs.Slips.{slip_of, answer_bytes, slip_bytes}

-- a call: next with an allowance, answer and slip with a buffer
pub data Request : Type 0 where
  to_next : ℕ → Request
  to_rewind to_tally to_hold : Request
  to_answer to_slip : List ℕ → Request

-- what a call returns; and of a call with a buffer, what the buffer then holds
pub data Reply : Type 0 where
  told : Result Outcome Refusal → Reply
  rewound : Reply
  tallied : Tally → Reply
  held : Result Unit WriteRefusal → Reply
  wrote : Result ℕ WriteRefusal → List ℕ → Reply

-- an answer can be held where one stands
abbrev pub hold : Condition → Result Unit WriteRefusal
hold running = Err NoAnswer
hold standing = Ok tt
hold ended = Err NoAnswer
hold (stopped why) = Err NoAnswer

-- the bytes are written to the buffer's front, if they fit, and what stands beyond them stays
abbrev pub written : List ℕ → List ℕ → Reply
written bytes buffer =
    cond (nat_le (length bytes) (length buffer)) (wrote (Ok (length bytes)) (bytes ++ drop (length bytes) buffer)) (wrote (Err NoRoom) buffer)

-- the answer is held first
abbrev pub written_if : Result Unit WriteRefusal → List ℕ → List ℕ → Reply
written_if (Ok u) bytes buffer = written bytes buffer
written_if (Err e) bytes buffer = wrote (Err e) buffer

abbrev pub reply : List Rule → Query → Request → Search → Reply
reply rs q (to_next a) s = told (next rs a s).result
reply rs q to_rewind s = rewound
reply rs q to_tally s = tallied (tally s)
reply rs q to_hold s = held (hold s.condition)
reply rs q (to_answer buffer) s = written_if (hold s.condition) (answer_bytes (slip_of rs q s.place)) buffer
reply rs q (to_slip buffer) s = written_if (hold s.condition) (slip_bytes (slip_of rs q s.place)) buffer

-- the search after a call: only next and rewind change it
abbrev pub after : List Rule → Query → Request → Search → Search
after rs q (to_next a) s = (next rs a s).search
after rs q to_rewind s = rewind q s
after rs q to_tally s = s
after rs q to_hold s = s
after rs q (to_answer buffer) s = s
after rs q (to_slip buffer) s = s

-- what each of the calls returns, one going on from where the one before ended
abbrev pub replies : List Rule → Query → List Request → Search → List Reply
replies rs q [] s = []
replies rs q (r ∷ more) s = reply rs q r s ∷ replies rs q more (after rs q r s)

-- the calls on a search just opened
abbrev pub run : List Rule → Query → List Request → List Reply
run rs q requests = replies rs q requests (opened q)
