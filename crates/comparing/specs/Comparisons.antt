-- Comparing terms command by command. Assumes nothing.
use Rattle.std.specs.Prelude.{◌≡◌, ℕ, Bool, true, false, ◌&&◌, List, [], ◌∷◌, ◌++◌, length}
use Rattle.terms.specs.Terms.{Term}
use Rattle.slips.specs.Checker.{same}

-- each is the same as the other's, one by one
abbrev pub all_same : List Term → List Term → Bool
all_same [] [] = true
all_same [] (t ∷ ts) = false
all_same (s ∷ ss) [] = false
all_same (s ∷ ss) (t ∷ ts) = same s t && all_same ss ts

-- The first terms of two lists are the same exactly where those that are due are: as many of each list, before what
-- stands behind the first terms.
pub record Comparing (s : Term) (ss : List Term) (t : Term) (ts : List Term) (One Other : List Term → Type 0) (due : ℕ) : Type 0 where
  pub left : List Term
  pub right : List Term
  pub lefts : length left ≡ due
  pub rights : length right ≡ due
  pub one : One (left ++ ss)
  pub other : Other (right ++ ts)
  pub as_first : same s t ≡ all_same left right

-- the result of comparing the first terms: where they are the same, what stands behind them is to come
pub record Compared (s : Term) (ss : List Term) (t : Term) (ts : List Term) (One Other : List Term → Type 0) (r : Bool) : Type 0 where
  pub value : r ≡ same s t
  pub one : r ≡ true → One ss
  pub other : r ≡ true → Other ts
