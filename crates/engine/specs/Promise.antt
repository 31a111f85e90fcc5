-- The promise over a whole run: calls on a search, and a slip that is checked. Assumes nothing.
use Rattle.std.specs.Prelude.{◌≡◌, ℕ, List, [], ◌∷◌, ◌++◌, map, take, Ok, Err, Result}
use Rattle.std.proofs.Math.Option.{some}
use Rattle.unification.specs.Ground.{Replacement}
use Rattle.resolution.specs.declared.Word.TheVariants.{Answer, NoMore}
use Rattle.resolution.specs.Follows.{QueryFollows}
use Rattle.resolution.specs.Laws.{Later}
use Rattle.slips.specs.declared.faults.OpeningFault.{OpeningFault}
use Rattle.slips.specs.Slips.{Slip, numbers, answer_bytes}
use Rattle.slips.specs.Opening.{rules_in, Opened, opening}
use Rattle.slips.specs.Runs.{Request, to_next, to_slip, wrote, run}
use Rattle.slips.specs.Checker.{check, Claims}
use Rattle.slips.specs.Laws.{NoRewind, Returns, Says, Stands, Given}
use Rattle.engine.specs.declared.slots.Slot.{Slot}
use Rattle.engine.specs.declared.report.Report.{Report}
use Rattle.engine.specs.Slots.{asked, returned, keeps}

-- ── any run for these rules and this query ──

-- what holds of every list of calls on a search opened with these rules and the query in these bytes
pub record Laws (bs : List ℕ) (o : Opened) : Type 0 where
  -- the checker, over any store of those rules, passes every slip that the search writes
  pub own_slips_pass : (others : List (List ℕ)) → rules_in others ≡ o.rules
      → (calls : List Request) (buffer now : List ℕ) (n : ℕ) → Returns o calls (to_slip buffer) (wrote (Ok n) now)
      → check (rules_in others) bs (take n now) ≡ Ok tt
  -- it passes no slip, whatever its bytes, that claims a replacement which does not follow
  pub what_passes_follows : (slip : List ℕ) → check o.rules bs slip ≡ Ok tt
      → (θ : Replacement) → Claims o.query slip θ → QueryFollows o.rules o.query θ
  -- whenever next says none, every ground replacement that follows is covered by an answer given since opening or the last rewind
  pub none_means_none : (calls : List Request) (a : ℕ) → Says o calls a NoMore
      → (θ : Replacement) → QueryFollows o.rules o.query θ → (g : Given o calls) × Claims o.query (answer_bytes g.slip) θ
  -- of two answers without a rewind between them, written or not, the later one's rule numbers come later in dictionary order
  pub in_order : (calls between : List Request) (a b : ℕ) → NoRewind between
      → Says o calls a Answer → Says o ((calls ++ (to_next a ∷ [])) ++ between) b Answer
      → (s t : Slip) × Stands o (calls ++ (to_next a ∷ [])) s × Stands o (((calls ++ (to_next a ∷ [])) ++ between) ++ (to_next b ∷ [])) t × Later (numbers s.steps) (numbers t.steps)

-- ── this run ──

-- whether it was opened, and if not the whole fault
abbrev pub status : Result Opened OpeningFault → Result Unit OpeningFault
status (Ok o) = Ok tt
status (Err e) = Err e

-- each call returned, and its buffer holds, what the run from the query, the rules as opened and these calls has; without
-- an opened search the slots stay as they were
abbrev pub Carried : Result Opened OpeningFault → List Slot → List Slot → Type 0
Carried (Ok o) slots slots' = map returned slots' ≡ map some (run o.rules o.query (map asked slots))
Carried (Err e) slots slots' = slots' ≡ slots

-- over the store's texts and the query's bytes, the slots before and after, the other store's texts and a slip's bytes
pub record Promise (texts : List (List ℕ)) (bs : List ℕ) (slots slots' : List Slot) (others : List (List ℕ)) (slip : List ℕ) (r : Report) : Type 0 where
  -- opening is the definition's, with the whole fault
  pub opening_is : r.opening ≡ status (opening texts bs)
  -- each call's result and buffer are those of the definition's run
  pub calls_are : Carried (opening texts bs) slots slots'
  -- a slot keeps its call, and its buffer where the call writes nothing
  pub slots_keep : map keeps slots' ≡ map keeps slots
  -- the checker's result on the other store is the definition's
  pub check_is : r.check ≡ check (rules_in others) bs slip
  -- and every run obeys the laws
  pub laws : (o : Opened) → opening texts bs ≡ Ok o → Laws bs o
