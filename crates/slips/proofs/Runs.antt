-- What a list of calls returns, and the search that it leads to. Assumes nothing.
use Rattle.std.proofs.Common.{◌≡◌, ℕ, ◌-◌, ◌≤◌, Bool, true, false, cond, leb, List, [], ◌∷◌, ◌++◌, map, length, take, drop, Ok, Err, Result, sym, refl, ap, ◌∙◌, subst, ap₂, arith, length-append, length-drop}
use mathlib.Core.List.{append_cancel_left}
use Rattle.std.proofs.lemmas.List.{take_at, drop_at}
use Rattle.std.proofs.lemmas.Bool.{leb-true, le-leb}
use Rattle.terms.specs.Terms.{Rule, Query}
use Rattle.unification.proofs.Choice.{cond_by}
use Rattle.resolution.specs.declared.Word.{Word}
use Rattle.resolution.specs.declared.Word.TheVariants.{Answer, Spent, Stopped, NoMore}
use Rattle.resolution.specs.declared.Outcome.{Outcome}
use Rattle.resolution.specs.Limits.{allowance_limit}
use Rattle.resolution.specs.Lines.{Step, Place, before, back, End, onward, lines}
use Rattle.resolution.specs.Search.{Condition, running, standing, ended, stopped, Search, condition_after, Called, settled, repeated, continued, next}
use Rattle.resolution.specs.Calls.{at_tally, Call, ask_next, ask_rewind, ask, Session, begun, after_call, after_calls, session}
use Rattle.resolution.proofs.Cells.{map-append}
use Rattle.resolution.proofs.Lines.{Final, lines_final}
use Rattle.resolution.proofs.Sessions.{sessions_keep, next_by}
use Rattle.slips.specs.declared.faults.WriteRefusal.{WriteRefusal}
use Rattle.slips.specs.declared.faults.WriteRefusal.TheVariants.{NoRoom}
use Rattle.slips.specs.Slips.{slip_of, answer_bytes, slip_bytes}
use Rattle.slips.specs.Opening.{Opened}
use Rattle.slips.specs.Runs.{Request, to_next, to_rewind, to_tally, to_hold, to_answer, to_slip, Reply, wrote, hold, written, written_if, reply, after, replies, run}
use Rattle.slips.specs.Laws.{Returns, OnlyLooks, LooksLeave, BeyondStays, BuffersStay}

-- what a request does to the search: those that only look do no more than tally
abbrev pub move : Request → Call
move (to_next a) = ask_next a
move to_rewind = ask_rewind
move to_tally = ask at_tally
move to_hold = ask at_tally
move (to_answer buffer) = ask at_tally
move (to_slip buffer) = ask at_tally

module _ (rs : List Rule) (q : Query) where
  -- the session that requests lead to from opening, and its search
  abbrev pub reached : List Request → Session
  reached calls = session rs q (map move calls)

  after_moved : (r : Request) (z : Session) → after rs q r z.search ≡ (after_call rs q (move r) z).search
  after_moved (to_next a) z = refl
  after_moved to_rewind z = refl
  after_moved to_tally z = refl
  after_moved to_hold z = refl
  after_moved (to_answer buffer) z = refl
  after_moved (to_slip buffer) z = refl

  replies_append : (xs ys : List Request) (z : Session)
      → replies rs q (xs ++ ys) z.search ≡ replies rs q xs z.search ++ replies rs q ys (after_calls rs q (map move xs) z).search
  replies_append [] ys z = refl
  replies_append (x ∷ xs) ys z =
      ap (λ l. reply rs q x z.search ∷ l)
      (ap (replies rs q (xs ++ ys)) (after_moved x z)
      ∙ replies_append xs ys (after_call rs q (move x) z)
      ∙ ap (λ s. replies rs q xs s ++ replies rs q ys (after_calls rs q (map move xs) (after_call rs q (move x) z)).search) (sym (after_moved x z)))

  -- one call more
  pub returned : (calls : List Request) (r : Request) → run rs q (calls ++ (r ∷ [])) ≡ run rs q calls ++ (reply rs q r (reached calls).search ∷ [])
  returned calls r = replies_append calls (r ∷ []) (begun q)

  pub run_append : (xs ys : List Request) → run rs q (xs ++ ys) ≡ run rs q xs ++ replies rs q ys (reached xs).search
  run_append xs ys = replies_append xs ys (begun q)

  after_append : (xs ys : List Call) (z : Session) → after_calls rs q (xs ++ ys) z ≡ after_calls rs q ys (after_calls rs q xs z)
  after_append [] ys z = refl
  after_append (x ∷ xs) ys z = after_append xs ys (after_call rs q x z)

  pub reached_append : (xs ys : List Request) → reached (xs ++ ys) ≡ after_calls rs q (map move ys) (reached xs)
  reached_append xs ys = ap (session rs q) (map-append move xs ys) ∙ after_append (map move xs) (map move ys) (begun q)

  -- ── where an answer stands ──

  -- no goal remains where an answer stands
  abbrev Done : Condition → Place → Type 0
  Done running p = Unit {0}
  Done standing p = p.goals ≡ []
  Done ended p = Unit {0}
  Done (stopped why) p = Unit {0}

  word_done : (w : Word) (left : ℕ) (p : Place) → Final rs w left p → Done (condition_after w) p
  word_done Answer left p f = f
  word_done Spent left p f = tt
  word_done (Stopped why) left p f = tt
  word_done NoMore left p f = tt

  lines_done : (a : ℕ) (p : Place) → Done (condition_after (lines rs a p).word) (lines rs a p).place
  lines_done a p = word_done (lines rs a p).word (lines rs a p).left (lines rs a p).place (lines_final rs a p)

  leaving_done : (a : ℕ) (p : Place) (fs : List Step) → let e : End = onward (lines rs) a p (back a fs) in Done (condition_after e.word) e.place
  leaving_done a p [] = tt
  leaving_done a p (f ∷ fs) = lines_done a (before f fs)

  continued_done : (a : ℕ) (s : Search) (c : Condition) → Done s.condition s.place → Done (continued rs a s c).search.condition (continued rs a s c).search.place
  continued_done a s running d = lines_done a s.place
  continued_done a s standing d = leaving_done a s.place s.place.branch
  continued_done a s ended d = d
  continued_done a s (stopped why) d = d

  done : (calls : List Call) → Done (session rs q calls).search.condition (session rs q calls).search.place
  done calls =
      sessions_keep rs q (λ z. Done z.search.condition z.search.place) tt
      (λ a z h. next_by rs (λ z. Done z.search.condition z.search.place) a z h (continued_done a z.search z.search.condition h)) calls

  pub standing_done : (calls : List Request) → (reached calls).search.condition ≡ standing → (reached calls).search.place.goals ≡ []
  standing_done calls e = subst (λ c. Done c (reached calls).search.place) e (done (map move calls))

  -- the word answer leaves an answer standing
  abbrev StandsThen : Called → Type 0
  StandsThen c = (o : Outcome) → c.result ≡ Ok o → o.word ≡ Answer → c.search.condition ≡ standing

  settled_then : (a : ℕ) (s : Search) (e : End) → StandsThen (settled a s e)
  settled_then a s e o k w = ap condition_after (let h : e.word ≡ o.word = (let g : record { word = e.word; tries = a - e.left } ≡ o = cc in ap (λ (x : Outcome). x.word) g) in h ∙ w)

  repeated_then : (w : Word) (s : Search) → (w ≡ Answer → ⊥) → StandsThen (repeated w s)
  repeated_then w s n o k e = absurd (n ((let g : record { word = w; tries = 0 } ≡ o = cc in ap (λ (x : Outcome). x.word) g) ∙ e))

  continued_then : (a : ℕ) (s : Search) (c : Condition) → StandsThen (continued rs a s c)
  continued_then a s running = settled_then a s (lines rs a s.place)
  continued_then a s standing = settled_then a s (onward (lines rs) a s.place (back a s.place.branch))
  continued_then a s ended = repeated_then NoMore s (λ e. (let z : ◌≡◌ {A = ℕ} 0 1 = cc in omega arith))
  continued_then a s (stopped why) = repeated_then (Stopped why) s (λ e. (let z : ◌≡◌ {A = ℕ} 0 1 = cc in omega arith))

  pub answer_stands : (a : ℕ) (s : Search) → StandsThen (next rs a s)
  answer_stands a s =
      cond_by StandsThen (leb a allowance_limit) (λ _. continued_then a s s.condition)
      (λ _ o k w. absurd (let z : ◌≡◌ {A = ℕ} 0 1 = cc in omega arith))

-- ── what a call returned, and what it returns ──

-- the session that requests lead to from opening
abbrev pub met : Opened → List Request → Session
met o calls = reached o.rules o.query calls

module _ (o : Opened) where
  pub returns_as : (calls : List Request) (r : Request) (x : Reply) → Returns o calls r x → reply o.rules o.query r (met o calls).search ≡ x
  returns_as calls r x e =
      let k = append_cancel_left (run o.rules o.query calls) (reply o.rules o.query r (met o calls).search ∷ []) (x ∷ [])
      (sym (returned o.rules o.query calls r) ∙ e) in
      cc

  pub as_returns : (calls : List Request) (r : Request) (x : Reply) → reply o.rules o.query r (met o calls).search ≡ x → Returns o calls r x
  as_returns calls r x e = returned o.rules o.query calls r ∙ ap (λ y. run o.rules o.query calls ++ (y ∷ [])) e

-- ── writing ──

pub written_room : (bytes buffer : List ℕ) → length bytes ≤ length buffer → written bytes buffer ≡ wrote (Ok (length bytes)) (bytes ++ drop (length bytes) buffer)
written_room bytes buffer l =
    ap (λ (b : Bool). cond b (wrote (Ok (length bytes)) (bytes ++ drop (length bytes) buffer)) (wrote (Err NoRoom) buffer)) (le-leb (length bytes) (length buffer) l)

-- what was written is the front of the buffer
pub written_front : (c : Condition) (bytes buffer now : List ℕ) (n : ℕ) → written_if (hold c) bytes buffer ≡ wrote (Ok n) now → (c ≡ standing) × (take n now ≡ bytes)
written_front running bytes buffer now n e = let z : ◌≡◌ {A = ℕ} 0 1 = cc in absurd (omega arith)
written_front ended bytes buffer now n e = let z : ◌≡◌ {A = ℕ} 0 1 = cc in absurd (omega arith)
written_front (stopped why) bytes buffer now n e = let z : ◌≡◌ {A = ℕ} 0 1 = cc in absurd (omega arith)
written_front standing bytes buffer now n e = (refl, by (leb (length bytes) (length buffer)) e)
  where
    by : (b : Bool) → cond b (wrote (Ok (length bytes)) (bytes ++ drop (length bytes) buffer)) (wrote (Err NoRoom) buffer) ≡ wrote (Ok n) now → take n now ≡ bytes
    by true e =
        let i : n ≡ length bytes = cc in
        let j : now ≡ bytes ++ drop (length bytes) buffer = cc in
        ap₂ take i j ∙ take_at bytes (drop (length bytes) buffer) (length bytes) refl
    by false e = let z : ◌≡◌ {A = ℕ} 0 1 = cc in absurd (omega arith)

beyond_written : (bytes buffer now : List ℕ) (r : Result ℕ WriteRefusal) (b : Bool) → leb (length bytes) (length buffer) ≡ b
    → cond b (wrote (Ok (length bytes)) (bytes ++ drop (length bytes) buffer)) (wrote (Err NoRoom) buffer) ≡ wrote r now → BeyondStays r buffer now
beyond_written bytes buffer now r true k e =
    let i : Ok (length bytes) ≡ r = cc in
    let j : bytes ++ drop (length bytes) buffer ≡ now = cc in
    let l : length bytes ≤ length buffer = leb-true (length bytes) (length buffer) k in
    subst (λ r. BeyondStays r buffer now) i
    (subst (λ m. BeyondStays (Ok (length bytes)) buffer m) j
    (l, omega (arith, l, length-append bytes (drop (length bytes) buffer), length-drop (length bytes) buffer), drop_at bytes (drop (length bytes) buffer) (length bytes) refl))
beyond_written bytes buffer now r false k e =
    let i : Err NoRoom ≡ r = cc in
    let j : buffer ≡ now = cc in
    subst (λ r. BeyondStays r buffer now) i (sym j)

beyond_held : (bytes buffer now : List ℕ) (r : Result ℕ WriteRefusal) (h : Result Unit WriteRefusal) → written_if h bytes buffer ≡ wrote r now → BeyondStays r buffer now
beyond_held bytes buffer now r (Ok u) e = beyond_written bytes buffer now r (leb (length bytes) (length buffer)) refl e
beyond_held bytes buffer now r (Err x) e =
    let i : Err x ≡ r = cc in
    let j : buffer ≡ now = cc in
    subst (λ r. BeyondStays r buffer now) i (sym j)

pub buffers_stay : BuffersStay
buffers_stay =
    record {
      by_answer = λ o calls buffer now r e.
          (let s : Search = (met o calls).search in
          beyond_held (answer_bytes (slip_of o.rules o.query s.place)) buffer now r (hold s.condition) (returns_as o calls (to_answer buffer) (wrote r now) e));
      by_slip = λ o calls buffer now r e.
          (let s : Search = (met o calls).search in
          beyond_held (slip_bytes (slip_of o.rules o.query s.place)) buffer now r (hold s.condition) (returns_as o calls (to_slip buffer) (wrote r now) e));
    }

-- ── calls that only look ──

looked : (rs : List Rule) (q : Query) (r : Request) → OnlyLooks r → (s : Search) → after rs q r s ≡ s
looked rs q (to_next a) l s = absurd l
looked rs q to_rewind l s = absurd l
looked rs q to_tally l s = refl
looked rs q to_hold l s = refl
looked rs q (to_answer buffer) l s = refl
looked rs q (to_slip buffer) l s = refl

pub looks_leave : LooksLeave
looks_leave o calls r more l =
    let s : Search = (met o calls).search in (
      reply o.rules o.query r s,
      replies o.rules o.query more s,
      run_append o.rules o.query calls (r ∷ more)
          ∙ ap (λ t. run o.rules o.query calls ++ (reply o.rules o.query r s ∷ replies o.rules o.query more t)) (looked o.rules o.query r l s),
      run_append o.rules o.query calls more,
    )
