-- How unification under the cells ends, by what the definition finds. Assumes nothing.
use Rattle.std.specs.Prelude.{◌≡◌, ℕ, ◌+◌, Bool, true, false, List, length}
use Rattle.std.proofs.Math.Option.{Option, none, some}
use Rattle.terms.specs.Terms.{Term}
use Rattle.unification.specs.Substitutions.{Substitution, apply}
use Rattle.bindings.specs.Cells.{Cell}
use Rattle.bindings.specs.Meanings.{meaning}
use Rattle.bindings.specs.Trails.{free_count, trail, Sound}

-- from the cells with the newest bound one h to the cells' with k: each term means what it meant with σ applied
pub record Applied (text : List ℕ) (used : ℕ) (cells : List Cell) (h : ℕ) (cells' : List Cell) (k : ℕ) (σ : Substitution) : Type 0 where
  pub sound : Sound text used cells' k
  pub means : (t : Term) → meaning (trail text cells' k) t ≡ apply σ (meaning (trail text cells h) t)
  pub fewer : free_count cells' + length σ ≡ free_count cells

-- no where nothing is found; else yes, and what is found is applied
abbrev pub Says : List ℕ → ℕ → List Cell → ℕ → List Cell → ℕ → Option Substitution → Bool → Type 0
Says text used cells h cells' k none r = r ≡ false
Says text used cells h cells' k (some σ) r = (r ≡ true) × Applied text used cells h cells' k σ

-- the result r, where the definition finds `found`
pub record Ends (text : List ℕ) (used : ℕ) (cells : List Cell) (h : ℕ) (cells' : List Cell) (k : ℕ) (found : Option Substitution) (r : Bool) : Type 0 where
  pub says : Says text used cells h cells' k found r
