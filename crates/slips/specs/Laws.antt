-- The laws of slips, of runs of calls and of the checker. Assumes nothing.
use Rattle.std.specs.Prelude.{◌≡◌, ℕ, zero, suc, ◌≤◌, List, [], ◌∷◌, ◌++◌, length, take, drop, Ok, Err, Result}
use Rattle.terms.specs.Terms.{Term, Rule, Query}
use Rattle.grammar.specs.Singles.{query}
use Rattle.grammar.specs.Encodings.{AllBytes}
use Rattle.unification.specs.Ground.{Replacement}
use Rattle.resolution.specs.declared.Word.{Word}
use Rattle.resolution.specs.declared.Word.TheVariants.{Answer, NoMore}
use Rattle.resolution.specs.Follows.{QueryFollows}
use Rattle.resolution.specs.Laws.{Later}
use Rattle.slips.specs.declared.faults.WriteRefusal.{WriteRefusal}
use Rattle.slips.specs.Slips.{all_appeared, numbered, Slip, numbers, answer_bytes, slip_bytes}
use Rattle.slips.specs.Opening.{AllRules, Opened, opening}
use Rattle.slips.specs.Runs.{Request, to_next, to_rewind, to_tally, to_hold, to_answer, to_slip, Reply, told, held, wrote, run}
use Rattle.slips.specs.Checker.{check, Claims}
use Rattle.slips.specs.Reading.{answer_in, slip_in}

-- ── unknowns ──

-- the numbers below n, in order
abbrev pub below : ℕ → List ℕ
below zero = []
below (suc n) = below n ++ (n ∷ [])

-- terms at the front of a list are numbered as if they stood alone; unknowns first appear as 0, 1, 2 and so on
pub record UnknownsInOrder : Type 0 where
  pub front_alone : (n : ℕ) (ts : List Term) → take n (numbered ts) ≡ numbered (take n ts)
  pub from_0 : (ts : List Term) → all_appeared [] (numbered ts) ≡ below (length (all_appeared [] ts))

-- ── the checker ──

-- a slip that passes, whatever its bytes, claims only replacements that follow
abbrev pub WhatPassesFollows : Type 0
WhatPassesFollows =
    (rs : List Rule) (bs : List ℕ) (q : Query) → AllBytes bs → query bs ≡ Ok q
    → (slip : List ℕ) → check rs bs slip ≡ Ok tt
    → (θ : Replacement) → Claims q slip θ → QueryFollows rs q θ

-- ── runs ──

-- a search is opened with the rules and the query that these bytes are; each text is a rule
pub record Opens (texts : List (List ℕ)) (bs : List ℕ) (o : Opened) : Type 0 where
  pub each : AllRules texts
  pub bytes : AllBytes bs
  pub opens : opening texts bs ≡ Ok o

-- no rewind is among the calls
abbrev pub NoRewind : List Request → Type 0
NoRewind [] = Unit {0}
NoRewind (to_next a ∷ calls) = NoRewind calls
NoRewind (to_rewind ∷ calls) = ⊥
NoRewind (to_tally ∷ calls) = NoRewind calls
NoRewind (to_hold ∷ calls) = NoRewind calls
NoRewind (to_answer buffer ∷ calls) = NoRewind calls
NoRewind (to_slip buffer ∷ calls) = NoRewind calls

module _ (o : Opened) where
  -- right after these calls, the call r returns x
  abbrev pub Returns : List Request → Request → Reply → Type 0
  Returns calls r x = run o.rules o.query (calls ++ (r ∷ [])) ≡ run o.rules o.query calls ++ (x ∷ [])

  -- right after these calls, next with the allowance a says the word
  pub record Says (calls : List Request) (a : ℕ) (w : Word) : Type 0 where
    pub tries : ℕ
    pub returns : Returns calls (to_next a) (told (Ok (record { word = w; tries = tries })))

  -- right after these calls, the call puts these bytes at the front of every buffer that has room for them
  abbrev pub Writes : List Request → (List ℕ → Request) → List ℕ → Type 0
  Writes calls into bytes =
      (buffer : List ℕ) → length bytes ≤ length buffer
      → Returns calls (into buffer) (wrote (Ok (length bytes)) (bytes ++ drop (length bytes) buffer))

  -- right after these calls this is the slip: answer and slip write it, and what they write reads back as it
  pub record Stands (calls : List Request) (s : Slip) : Type 0 where
    pub answers : Writes calls to_answer (answer_bytes s)
    pub slips : Writes calls to_slip (slip_bytes s)
    pub answer_back : answer_in (answer_bytes s) ≡ Ok s.terms
    pub slip_back : slip_in (slip_bytes s) ≡ Ok s

  -- an answer given in these calls, since opening or the last rewind among them: the calls up to it, and its slip
  pub record Given (calls : List Request) : Type 0 where
    pub earlier : List Request
    pub allowance : ℕ
    pub later : List Request
    pub split : calls ≡ earlier ++ (to_next allowance ∷ later)
    pub since : NoRewind later
    pub says : Says earlier allowance Answer
    pub slip : Slip
    pub stands : Stands (earlier ++ (to_next allowance ∷ [])) slip

-- wherever an answer can be held, answer and slip write it, and it reads back
abbrev pub WrittenReadsBack : Type 0
WrittenReadsBack =
    (texts : List (List ℕ)) (bs : List ℕ) (o : Opened) → Opens texts bs o
    → (calls : List Request) → Returns o calls to_hold (held (Ok tt)) → (s : Slip) × Stands o calls s

-- the first bytes of a buffer, as many as slip returns, pass the checker
abbrev pub OwnSlipsPass : Type 0
OwnSlipsPass =
    (texts : List (List ℕ)) (bs : List ℕ) (o : Opened) → Opens texts bs o
    → (calls : List Request) (buffer now : List ℕ) (n : ℕ) → Returns o calls (to_slip buffer) (wrote (Ok n) now)
    → check o.rules bs (take n now) ≡ Ok tt

-- whenever next says none, each replacement that follows is covered by an answer given since opening or the last rewind,
-- as answer writes it right after the call that gave it
abbrev pub NoneMeansNone : Type 0
NoneMeansNone =
    (texts : List (List ℕ)) (bs : List ℕ) (o : Opened) → Opens texts bs o
    → (calls : List Request) (a : ℕ) → Says o calls a NoMore
    → (θ : Replacement) → QueryFollows o.rules o.query θ
    → (g : Given o calls) × Claims o.query (answer_bytes g.slip) θ

-- of two answers without a rewind between them, the rule numbers of the later one's slip come later in dictionary order
abbrev pub InOrder : Type 0
InOrder =
    (texts : List (List ℕ)) (bs : List ℕ) (o : Opened) → Opens texts bs o
    → (calls between : List Request) (a b : ℕ) → NoRewind between
    → let first : List Request = calls ++ (to_next a ∷ []) in
    Says o calls a Answer → Says o (first ++ between) b Answer
    → (s t : Slip) × Stands o first s × Stands o ((first ++ between) ++ (to_next b ∷ [])) t × Later (numbers s.steps) (numbers t.steps)

-- ── calls that leave things as they were ──

-- hold, answer, slip and tally change no later result: without the call the others return what they return with it
abbrev pub OnlyLooks : Request → Type 0
OnlyLooks (to_next a) = ⊥
OnlyLooks to_rewind = ⊥
OnlyLooks to_tally = Unit {0}
OnlyLooks to_hold = Unit {0}
OnlyLooks (to_answer buffer) = Unit {0}
OnlyLooks (to_slip buffer) = Unit {0}

abbrev pub LooksLeave : Type 0
LooksLeave =
    (o : Opened) (calls : List Request) (r : Request) (more : List Request) → OnlyLooks r
    → (x : Reply) × (xs : List Reply)
    × (run o.rules o.query (calls ++ (r ∷ more)) ≡ run o.rules o.query calls ++ (x ∷ xs))
    × (run o.rules o.query (calls ++ more) ≡ run o.rules o.query calls ++ xs)

-- a buffer keeps its length and what stands beyond the bytes written; after a refusal it is as it was
abbrev pub BeyondStays : Result ℕ WriteRefusal → List ℕ → List ℕ → Type 0
BeyondStays (Ok n) buffer now = (n ≤ length buffer) × (length now ≡ length buffer) × (drop n now ≡ drop n buffer)
BeyondStays (Err e) buffer now = now ≡ buffer

pub record BuffersStay : Type 0 where
  pub by_answer : (o : Opened) (calls : List Request) (buffer now : List ℕ) (r : Result ℕ WriteRefusal) → Returns o calls (to_answer buffer) (wrote r now) → BeyondStays r buffer now
  pub by_slip : (o : Opened) (calls : List Request) (buffer now : List ℕ) (r : Result ℕ WriteRefusal) → Returns o calls (to_slip buffer) (wrote r now) → BeyondStays r buffer now
