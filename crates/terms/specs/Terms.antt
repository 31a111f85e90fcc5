-- Terms, rules and queries. Assumes nothing.
use Rattle.std.specs.Prelude.{List, ℕ}

-- a variable or an unknown, by its number; an atom, by its number; a pair of a first part and a rest
pub data Term : Type 0 where
  var : ℕ → Term
  atom : ℕ → Term
  pair : Term → Term → Term

-- how many variables it declares, its head and its goals
pub record Rule : Type 0 where
  pub variables : ℕ
  pub head : Term
  pub goals : List Term

pub record Query : Type 0 where
  pub variables : ℕ
  pub goals : List Term
