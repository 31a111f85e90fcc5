-- What holds at opening, and stays with each call of next, holds after every list of calls. Assumes nothing.
use Rattle.std.proofs.Common.{◌≡◌, ℕ, ◌<◌, ◌≤◌, leb, List, [], ◌∷◌, length, refl}
use mathlib.Core.Option.{Option, none, some}
use Rattle.terms.specs.Terms.{Term, Rule, Query}
use Rattle.unification.specs.Variables.{shifted}
use Rattle.unification.specs.Substitutions.{Substitution}
use Rattle.unification.specs.Unification.{unify}
use Rattle.unification.proofs.Choice.{cond_by}
use Rattle.resolution.specs.declared.Word.{Word}
use Rattle.resolution.specs.declared.Word.TheVariants.{Answer, Spent, Stopped, NoMore}
use Rattle.resolution.specs.Rules.{rule}
use Rattle.resolution.specs.Cells.{fresh}
use Rattle.resolution.specs.Limits.{allowance_limit}
use Rattle.resolution.specs.Lines.{Step, Place, before, back, stop, landed, tried, onward, lines}
use Rattle.resolution.specs.Search.{Condition, running, standing, ended, stopped, Search, Called, settled, continued, next}
use Rattle.resolution.specs.Calls.{Call, ask_next, ask_rewind, ask, Session, begun, given_by, called, after_call, after_calls, session}
use Rattle.resolution.specs.Laws.{Each}
use Rattle.resolution.proofs.Lines.{at, Final, lines_keep, lines_final}

module _ (rs : List Rule) (q : Query) (P : Session → Type 0) (start : P (begun q))
    (step : (a : ℕ) (z : Session) → P z → P (called (next rs a z.search) z.given)) where
  call_keeps : (c : Call) (z : Session) → P z → P (after_call rs q c z)
  call_keeps (ask_next a) z h = step a z h
  call_keeps ask_rewind z h = start
  call_keeps (ask l) z h = h

  calls_keep : (cs : List Call) (z : Session) → P z → P (after_calls rs q cs z)
  calls_keep [] z h = h
  calls_keep (c ∷ cs) z h = calls_keep cs (after_call rs q c z) (call_keeps c z h)

  pub sessions_keep : (cs : List Call) → P (session rs q cs)
  sessions_keep cs = calls_keep cs (begun q) start

-- a call of next, refused or not
pub next_by : (rs : List Rule) (P : Session → Type 0) (a : ℕ) (z : Session) → P z
    → P (called (continued rs a z.search z.search.condition) z.given) → P (called (next rs a z.search) z.given)
next_by rs P a z h k = cond_by (λ (c : Called). P (called c z.given)) (leb a allowance_limit) (λ _. k) (λ _. h)

-- ── statements of goals, cells and branch that a successful try keeps ──

abbrev pub Statement : Type 1
Statement = List Term → List Term → List Step → Type 0

abbrev pub Holds : Statement → Place → Type 0
Holds I p = I p.goals p.cells p.branch

abbrev pub Stays : List Rule → Statement → Type 0
Stays rs I =
    (g : Term) (rest : List Term) (due : ℕ) (cells : List Term) (fs : List Step) (σ : Substitution)
    → due < length rs → stop rs (at (g ∷ rest) due cells fs) ≡ none → unify (shifted (length cells) (rule rs due).head) g ≡ some σ
    → I (g ∷ rest) cells fs → Holds I (landed (at (g ∷ rest) due cells fs) (rule rs due) g rest (some σ))

module _ (rs : List Rule) (I : Statement) (stays : Stays rs I) where
  -- the statement held before each step
  abbrev pub BeforeSteps : List Step → Type 0
  BeforeSteps [] = Unit {0}
  BeforeSteps (f ∷ fs) = I (f.goal ∷ f.rest) f.cells fs × BeforeSteps fs

  abbrev pub Throughout : Place → Type 0
  Throughout p = Holds I p × BeforeSteps p.branch

  pub back_throughout : (g : Term) (rest : List Term) (due : ℕ) (cells : List Term) (f : Step) (fs : List Step) → length rs ≤ due
      → Throughout (at (g ∷ rest) due cells (f ∷ fs)) → Throughout (before f fs)
  back_throughout g rest due cells f fs l h = h.1

  landed_throughout : (g : Term) (rest : List Term) (due : ℕ) (cells : List Term) (fs : List Step) → due < length rs → stop rs (at (g ∷ rest) due cells fs) ≡ none
      → Throughout (at (g ∷ rest) due cells fs) → (u : Option Substitution) → unify (shifted (length cells) (rule rs due).head) g ≡ u
      → Throughout (landed (at (g ∷ rest) due cells fs) (rule rs due) g rest u)
  landed_throughout g rest due cells fs l s h none e = h
  landed_throughout g rest due cells fs l s h (some σ) e = (stays g rest due cells fs σ l s e h.0, (h.0, h.1))

  pub try_throughout : (g : Term) (rest : List Term) (due : ℕ) (cells : List Term) (fs : List Step) → due < length rs → stop rs (at (g ∷ rest) due cells fs) ≡ none
      → Throughout (at (g ∷ rest) due cells fs) → Throughout (tried rs (at (g ∷ rest) due cells fs) g rest)
  try_throughout g rest due cells fs l s h = landed_throughout g rest due cells fs l s h (unify (shifted (length cells) (rule rs due).head) g) refl

  pub lines_throughout : (a : ℕ) (p : Place) → Throughout p → Throughout (lines rs a p).place
  lines_throughout = lines_keep rs Throughout back_throughout try_throughout

  -- a place at which an answer is given
  abbrev pub Stands : Place → Type 0
  Stands p = (p.goals ≡ []) × Throughout p

  pub record Kept (z : Session) : Type 0 where
    pub now_kept : Throughout z.search.place
    pub given_kept : Each Stands z.given

  given_stands : (w : Word) (left : ℕ) (p : Place) (ps : List Place) → Final rs w left p → Throughout p → Each Stands ps → Each Stands (given_by w p ps)
  given_stands Answer left p ps f t h = ((f, t), h)
  given_stands Spent left p ps f t h = h
  given_stands (Stopped why) left p ps f t h = h
  given_stands NoMore left p ps f t h = h

  lines_kept : (a : ℕ) (s : Search) (ps : List Place) (p : Place) → Throughout p → Each Stands ps → Kept (called (settled a s (lines rs a p)) ps)
  lines_kept a s ps p t h =
      record {
        now_kept = lines_throughout a p t;
        given_kept = given_stands (lines rs a p).word (lines rs a p).left (lines rs a p).place ps (lines_final rs a p) (lines_throughout a p t) h;
      }

  leaving_kept : (a : ℕ) (s : Search) (ps : List Place) (p : Place) (fs : List Step) → Throughout p → BeforeSteps fs → Each Stands ps
      → Kept (called (settled a s (onward (lines rs) a p (back a fs))) ps)
  leaving_kept a s ps p [] t b h = record { now_kept = t; given_kept = h }
  leaving_kept a s ps p (f ∷ fs) t b h = lines_kept a s ps (before f fs) b h

  continued_kept : (a : ℕ) (s : Search) (ps : List Place) → Throughout s.place → Each Stands ps → (c : Condition) → Kept (called (continued rs a s c) ps)
  continued_kept a s ps t h running = lines_kept a s ps s.place t h
  continued_kept a s ps t h standing = leaving_kept a s ps s.place s.place.branch t t.1 h
  continued_kept a s ps t h ended = record { now_kept = t; given_kept = h }
  continued_kept a s ps t h (stopped why) = record { now_kept = t; given_kept = h }

  pub next_kept : (a : ℕ) (z : Session) → Kept z → Kept (called (next rs a z.search) z.given)
  next_kept a z k = next_by rs Kept a z k (continued_kept a z.search z.given k.now_kept k.given_kept z.search.condition)

  pub all_kept : (q : Query) → I q.goals (fresh 0 q.variables) [] → (cs : List Call) → Kept (session rs q cs)
  all_kept q i =
      sessions_keep rs q Kept (record { now_kept = (i, tt); given_kept = tt }) next_kept
