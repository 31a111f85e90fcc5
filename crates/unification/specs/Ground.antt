-- Ground terms, and replacements of variables by them. Assumes nothing.
use Rattle.std.specs.Prelude.{List, map, ℕ}
use Rattle.terms.specs.Terms.{Term, var, atom, pair}

-- a term without variables; any number may be an atom's
pub data Ground : Type 0 where
  ground_atom : ℕ → Ground
  ground_pair : Ground → Ground → Ground

-- a ground term for each variable
abbrev pub Replacement : Type 0
Replacement = ℕ → Ground

-- the term with its variables replaced
abbrev pub replaced : Replacement → Term → Ground
replaced γ (var x) = γ x
replaced γ (atom a) = ground_atom a
replaced γ (pair s t) = ground_pair (replaced γ s) (replaced γ t)

abbrev pub all_replaced : Replacement → List Term → List Ground
all_replaced γ ts = map (replaced γ) ts
