-- How variables are named while terms are written, and a table of the numbers that unknowns got. Assumes nothing.
use Rattle.std.specs.Prelude.{◌≡◌, ℕ, zero, suc, ◌<◌, ◌≤◌, true, false, cond, List, length, slice_index_or, Some, None, Option}
use Rattle.terms.specs.declared.Form.TheVariants.{Rules, Slips}
use Rattle.terms.specs.Terms.{Term}
use Rattle.terms.specs.Bytes.{encoding}
use Rattle.slips.specs.Slips.{among, position, appeared, renumbered}

-- ── names ──

-- variables go by their own numbers, in the form of rules; or they are unknowns, numbered by first appearance after
-- those that appeared before, in the form of slips
pub data Names : Type 0 where
  own : Names
  by_first : List ℕ → Names

-- the bytes of a term
abbrev pub term_bytes : Names → Term → List ℕ
term_bytes own t = encoding Rules t
term_bytes (by_first xs) t = encoding Slips (renumbered (appeared xs t) t)

-- the names once it is written
abbrev pub names_after : Names → Term → Names
names_after own t = own
names_after (by_first xs) t = by_first (appeared xs t)

-- ── the table ──

-- how many of the numbers below n are among xs
abbrev pub count : ℕ → List ℕ → ℕ
count zero xs = 0
count (suc n) xs = cond (among n xs) (suc (count n xs)) (count n xs)

-- the variables xs appeared, each below `used` and listed once; the table has the place of each, and of no other
pub record Numbers (table : List (Option ℕ)) (met used : ℕ) (xs : List ℕ) : Type 0 where
  pub room : used ≤ length table
  pub many : met ≡ length xs
  pub once : length xs ≡ count used xs
  pub known : (x : ℕ) → among x xs ≡ true → slice_index_or table x None ≡ Some (position x xs)
  pub others : (x : ℕ) → x < length table → among x xs ≡ false → slice_index_or table x None ≡ None
