-- The rows that a listing still has. Assumes nothing.
use Rattle.std.specs.Prelude.{ℕ, zero, suc, List, [], ◌∷◌, Ok, Err, Result}
use Rattle.engine.specs.declared.search.Search.{Search}
use Rattle.engine.specs.Models.{rules_of, query_of, model}
use Rattle.listing.specs.declared.Listing.{Listing}
use Rattle.listing.specs.declared.faults.Fault.{Fault}
use Rattle.listing.specs.declared.rows.Row.{Row}
use Rattle.listing.specs.declared.rows.Row.TheVariants.{Refused}
use Rattle.listing.specs.Listings.{rows}

abbrev pub rows_with : ℕ → Result Search Fault → List Row
rows_with n (Ok s) = rows (rules_of s) (query_of s) n (model s)
rows_with zero (Err e) = []
rows_with (suc n) (Err e) = Refused e ∷ []

abbrev pub rows_left : Listing → List Row
rows_left l = rows_with l.calls l.search
