-- The form that a meaning shows. Assumes nothing.
use Rattle.std.specs.Prelude.{◌≡◌, ℕ, ◌<◌, List, get_or, slice_index_or, None}
use Rattle.terms.specs.Terms.{Term, var, atom}
use Rattle.bindings.specs.Cells.{Cell}
use Rattle.bindings.specs.declared.Shape.{Shape}
use Rattle.bindings.specs.declared.Shape.TheVariants.{Open, Atom, Pair}
use Rattle.bindings.specs.Trails.{TermIn, meaning_at}

-- neither an atom nor a variable stands at p
pub record PairAt (text : List ℕ) (p : ℕ) : Type 0 where
  pub not_atom : get_or text p 0 ≡ 1 → ⊥
  pub not_variable : get_or text p 0 ≡ 2 → ⊥

-- the meaning m is a free cell in use, an atom, or the meaning of a pair in the text
abbrev pub Shows : List ℕ → ℕ → List Cell → ℕ → Term → Shape → Type 0
Shows text used cells h m (Open c) = (c < used) × (slice_index_or cells c None ≡ None) × (m ≡ var c)
Shows text used cells h m (Atom a) = m ≡ atom a
Shows text used cells h m (Pair p) = TermIn text used p × PairAt text p.place × (m ≡ meaning_at text cells h p)
