-- How questions follow one another. Assumes nothing.
use Rattle.std.specs.Prelude.{Bool, true, false, Ok, Err, Result}

-- a question: a no ends the reading with this fault, a yes goes on
abbrev pub ask : {T E : Type 0} → Bool → E → Result T E → Result T E
ask true e more = more
ask false e more = Err e

-- go on with what was read; the layer above wraps a fault of the layer below
abbrev pub go : {T U E F : Type 0} → Result T E → (E → F) → (T → Result U F) → Result U F
go (Ok x) wrap more = more x
go (Err e) wrap more = Err (wrap e)
