-- Where two lists differ first. Assumes nothing.
use Rattle.std.specs.Prelude.{◌≡◌, ◌≢◌, ℕ, List, take, slice_get}
use Rattle.outcomes.specs.declared.Outcome.{Outcome}

-- what is before the place is the same, and what stands at it is not; one of the lists may end there
pub record DifferFirst (found stored : List Outcome) (place : ℕ) : Type 0 where
  pub same : take place found ≡ take place stored
  pub other : slice_get found place ≢ slice_get stored place
