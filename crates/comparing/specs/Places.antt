-- Where the terms of a step begin and end. Assumes nothing.
use Rattle.std.specs.Prelude.{◌≡◌, ℕ, List, ◌++◌, length, Ok, Err, Result}
use Rattle.terms.specs.Terms.{Term}
use Rattle.grammar.specs.declared.faults.RuleFault.{RuleFault}

-- the place behind the terms, or their fault
abbrev pub where_to : Result (List Term × ℕ) RuleFault → Result ℕ RuleFault
where_to (Ok (ts, p)) = Ok p
where_to (Err e) = Err e

-- n entries have come to a table
pub record Added (was is : List ℕ) (n : ℕ) : Type 0 where
  pub more : List ℕ
  pub together : is ≡ was ++ more
  pub count : length more ≡ n
