-- The tally tells the tries and answers of the calls since opening or the last rewind. Assumes nothing.
use Rattle.std.proofs.Common.{◌≡◌, ℕ, ◌+◌, leb, List, [], ◌∷◌, Ok, Err, Result, refl, arith}
use Rattle.terms.specs.Terms.{Rule, Query}
use Rattle.unification.proofs.Choice.{cond_by}
use Rattle.resolution.specs.declared.Word.{Word}
use Rattle.resolution.specs.declared.Word.TheVariants.{Answer, Spent, Stopped, NoMore}
use Rattle.resolution.specs.declared.Outcome.{Outcome}
use Rattle.resolution.specs.declared.Refusal.{Refusal}
use Rattle.resolution.specs.Limits.{allowance_limit}
use Rattle.resolution.specs.Lines.{back, End, onward, lines}
use Rattle.resolution.specs.Search.{Condition, running, standing, ended, stopped, Search, held, answers_after, Called, settled, continued, next}
use Rattle.resolution.specs.Calls.{Call, ask_next, ask_rewind, ask, said, Session, begun, after_call, after_calls, replies}
use Rattle.resolution.specs.Laws.{tries_in, one_if_answer, answers_in, Tallies}

-- the counts of a search stand at n tries and m answers
record StandsAt (s : Search) (n m : ℕ) : Type 0 where
  tries_at : s.tries ≡ held n
  answers_at : s.answers ≡ held m

-- the counts after a call that returned this
abbrev Adds : Result Outcome Refusal → Search → ℕ → ℕ → Type 0
Adds (Ok o) s n m = StandsAt s (n + o.tries) (m + one_if_answer o.word)
Adds (Err e) s n m = StandsAt s n m

answers_held : (w : Word) (a m : ℕ) → a ≡ held m → answers_after w a ≡ held (m + one_if_answer w)
answers_held Answer a m h = omega (arith, h)
answers_held Spent a m h = omega (arith, h)
answers_held (Stopped why) a m h = omega (arith, h)
answers_held NoMore a m h = omega (arith, h)

module _ (rs : List Rule) (a : ℕ) (s : Search) (n m : ℕ) (h : StandsAt s n m) where
  settled_adds : (e : End) → Adds (settled a s e).result (settled a s e).search n m
  settled_adds e = record { tries_at = omega (arith, h.tries_at); answers_at = answers_held e.word s.answers m h.answers_at }

  continued_adds : (c : Condition) → Adds (continued rs a s c).result (continued rs a s c).search n m
  continued_adds running = settled_adds (lines rs a s.place)
  continued_adds standing = settled_adds (onward (lines rs) a s.place (back a s.place.branch))
  continued_adds ended = record { tries_at = omega (arith, h.tries_at); answers_at = omega (arith, h.answers_at) }
  continued_adds (stopped why) = record { tries_at = omega (arith, h.tries_at); answers_at = omega (arith, h.answers_at) }

  next_adds : Adds (next rs a s).result (next rs a s).search n m
  next_adds = cond_by (λ (c : Called). Adds c.result c.search n m) (leb a allowance_limit) (λ _. continued_adds s.condition) (λ _. h)

module _ (rs : List Rule) (q : Query) where
  abbrev Told : Session → List Call → ℕ → ℕ → Type 0
  Told z cs n m = StandsAt (after_calls rs q cs z).search (tries_in n (replies rs q cs z)) (answers_in m (replies rs q cs z))

  -- what the remaining calls tell, whatever the first returned
  next_told : (z : Session) (cs : List Call) (n m : ℕ) (s : Search) (r : Result Outcome Refusal) → Adds r s n m
      → ((n m : ℕ) → StandsAt s n m → Told z cs n m)
      → StandsAt (after_calls rs q cs z).search (tries_in n (said r ∷ replies rs q cs z)) (answers_in m (said r ∷ replies rs q cs z))
  next_told z cs n m s (Ok o) h k = k (n + o.tries) (m + one_if_answer o.word) h
  next_told z cs n m s (Err e) h k = k n m h

  calls_told : (cs : List Call) (z : Session) (n m : ℕ) → StandsAt z.search n m → Told z cs n m
  calls_told [] z n m h = h
  calls_told (ask_next a ∷ cs) z n m h =
      next_told (after_call rs q (ask_next a) z) cs n m (next rs a z.search).search (next rs a z.search).result (next_adds rs a z.search n m h)
      (calls_told cs (after_call rs q (ask_next a) z))
  calls_told (ask_rewind ∷ cs) z n m h = calls_told cs (after_call rs q ask_rewind z) 0 0 (record { tries_at = refl; answers_at = refl })
  calls_told (ask l ∷ cs) z n m h = calls_told cs z n m h

pub tallies : Tallies
tallies rs q calls =
    let h : StandsAt _ _ _ = calls_told rs q calls (begun q) 0 0 (record { tries_at = refl; answers_at = refl }) in
    (h.tries_at, h.answers_at)
