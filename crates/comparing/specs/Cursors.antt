-- Where terms stand in a slip, and what is still to come of a text under the terms of a step. Assumes nothing.
use Rattle.std.specs.Prelude.{◌≡◌, ℕ, suc, ◌+◌, ◌-◌, ◌*◌, ◌<◌, ◌≤◌, List, [], ◌∷◌, ◌++◌, map, length, drop, Some, None, Option, slice_index}
use Rattle.terms.specs.declared.Form.TheVariants.{Rules, Slips}
use Rattle.terms.specs.Terms.{Term}
use Rattle.terms.specs.Bytes.{encodings, AllFit}
use Rattle.grammar.specs.declared.commands.Command.{Command}
use Rattle.resolution.specs.Cells.{cell, present}
use Rattle.comparing.specs.declared.Inside.{Inside}
use Rattle.comparing.specs.declared.Cursor.{Cursor}
use Rattle.comparing.specs.Streams.{first_of, after_first}

-- the slip has these terms at p, and then the rest
pub record Stands (slip : List ℕ) (p : ℕ) (ts : List Term) : Type 0 where
  pub rest : List ℕ
  pub is : drop p slip ≡ encodings Slips ts ++ rest

-- the table tells from its entry `first` on where each of these terms begins
pub record Listed (slip table : List ℕ) (first : ℕ) (ts : List Term) : Type 0 where
  pub within : first + length ts ≤ length table
  pub stand : (k : ℕ) → k < length ts → Stands slip (slice_index table (first + k)) (cell ts k ∷ [])

-- these terms are due there, and one at least
pub record DueAt (slip : List ℕ) (i : Inside) (ts : List Term) : Type 0 where
  pub some : 0 < i.due
  pub stand : Stands slip i.place ts
  pub counted : length ts ≡ i.due

abbrev pub Due : List ℕ → Option Inside → List Term → Type 0
Due slip None ts = ts ≡ []
Due slip (Some i) ts = DueAt slip i ts

-- A cursor over a text: what is to come are the terms that are due in the slip, and then the terms that the text has from
-- `place` to its end, under the terms that the table lists from `first` on. A text has 517 bytes at most.
pub record Means (slip table text : List ℕ) (first place : ℕ) (inside : Option Inside) (pending : List Term) : Type 0 where
  pub terms : List Term
  pub listed : Listed slip table first terms
  pub own : List Term
  pub in_text : drop place text ≡ encodings Rules own
  pub declared : AllFit (length terms) own
  pub short : length text ≤ 517
  pub due : List Term
  pub in_slip : Due slip inside due
  pub is : pending ≡ due ++ map (present terms) own

-- the first command of terms that are due is taken, and what is left of them is due
pub record Went (slip : List ℕ) (c : Command) (left : Option Inside) (ts : List Term) : Type 0 where
  pub first : Some c ≡ first_of ts
  pub later : Due slip left (after_first ts)

-- the command c is the first of what was to come, and what is left is still to come
pub record Took (Later : List Term → Type 0) (pending : List Term) (c : Command) : Type 0 where
  pub first : Some c ≡ first_of pending
  pub later : Later (after_first pending)

-- what is left to go over in the slip, until the cursor is back in the text
abbrev pub left_inside : List ℕ → Option Inside → ℕ
left_inside slip None = 0
left_inside slip (Some i) = length slip - i.place

-- what is left to go over: a place more of the text outweighs the whole slip
abbrev pub weight : List ℕ → Cursor → ℕ
weight slip c = (65536 - c.place) * suc (length slip) + left_inside slip c.inside
