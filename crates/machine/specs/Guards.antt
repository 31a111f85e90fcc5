-- What terms mean under a guard's cells, and what a guard keeps while a try binds cells. Assumes nothing.
use Rattle.std.specs.Prelude.{◌≡◌, ℕ, Bool, List, length}
use Rattle.std.proofs.Math.Option.{Option}
use Rattle.terms.specs.Terms.{Term}
use Rattle.unification.specs.Substitutions.{Substitution}
use Rattle.bindings.specs.Cells.{Cell}
use Rattle.bindings.specs.declared.TermAt.{TermAt}
use Rattle.bindings.specs.Trails.{Since, Sound, TermIn, meaning_at}
use Rattle.bindings.specs.Endings.{Ends}
use Rattle.machine.specs.declared.cells.Cells.{Cells}
use Rattle.machine.specs.declared.guard.Guard.{Guard}

-- the guard's cells are in order over the text
abbrev pub InOrder : List ℕ → Guard → Type 0
InOrder text g = Sound text g.used g.cells.now g.newest

-- the term stands in the text over cells in use
abbrev pub Over : List ℕ → Guard → TermAt → Type 0
Over text g t = TermIn text g.used t

-- what the term means under the guard's cells
abbrev pub means : List ℕ → Guard → TermAt → Term
means text g t = meaning_at text g.cells.now g.newest t

-- the cells that the guard has, as cells
abbrev pub cells_of : Guard → Cells
cells_of g = record { table = g.cells.now; used = g.used; newest = g.newest }

-- the guard g became k, and r was said, where the definition finds `found`
abbrev pub ComesTo : List ℕ → Guard → Guard → Option Substitution → Bool → Type 0
ComesTo text g k found r = Ends text g.used g.cells.now g.newest k.cells.now k.newest found r

-- the guard g became k by bindings alone, so every older mark still stands
pub record OnlyBound (g k : Guard) : Type 0 where
  pub used : k.used ≡ g.used
  pub mark : k.mark ≡ g.mark
  pub keep : k.keep ≡ g.keep
  pub same : k.cells.ghost_name ≡ g.cells.ghost_name
  pub many : length k.cells.now ≡ length g.cells.now
  pub since : (was : List Cell) (m : ℕ) → Since was m g.cells.now g.newest → Since was m k.cells.now k.newest
