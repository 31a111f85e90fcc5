-- Checking a slip from a stage on, and what is checked before the first step. Assumes nothing.
use Rattle.std.specs.Prelude.{◌≡◌, ℕ, ◌-◌, List, [], ◌∷◌, None, Ok, Result}
use Rattle.terms.specs.Terms.{Term, Query}
use Rattle.grammar.specs.Asking.{go}
use Rattle.grammar.specs.Singles.{query}
use Rattle.unification.specs.Ground.{Replacement}
use Rattle.resolution.specs.Follows.{QueryFollows}
use Rattle.resolution.specs.Limits.{step_limit}
use Rattle.slips.specs.declared.faults.SlipFault.{SlipFault}
use Rattle.slips.specs.declared.faults.SlipFault.TheVariants.{Reading}
use Rattle.slips.specs.declared.faults.CheckFault.{CheckFault}
use Rattle.slips.specs.declared.faults.CheckFault.TheVariants.{InSlip}
use Rattle.slips.specs.Checker.{terms_at, steps, Claims}
use Rattle.slips.specs.Opening.{rules_in}
use Rattle.comparing.specs.declared.Source.TheVariants.{Query as OfQuery}
use Rattle.comparing.specs.declared.Cursor.{Cursor}
use Rattle.comparing.specs.Cursors.{Listed}
use Rattle.comparing.specs.Parts.{opened}
use Rattle.comparing.specs.Places.{where_to}
use Rattle.comparing.specs.Stages.{Tables, Sized}
use Rattle.comparing.specs.Texts.{Sources}

-- a fault in the slip, when n steps are done
abbrev pub counted_by : {T : Type 0} → ℕ → Result T SlipFault → Result T CheckFault
counted_by n r = go r (λ e. InSlip e n) (λ x. Ok x)

-- what is left of the steps
abbrev pub steps_from : Sources → Tables → List Term → Result Unit CheckFault
steps_from s t goals = steps (rules_in s.rules) s.slip (step_limit - t.steps) t.steps t.place goals

-- where the first step begins: behind the terms of the query's v variables
abbrev pub first_step : ℕ → List ℕ → Result ℕ SlipFault
first_step v slip = go (opened v slip) (λ e. e) (λ u. go (where_to (terms_at v 2 slip)) Reading (λ p. Ok p))

-- the cursor at the goals of the query
abbrev pub at_query : Cursor
at_query = record { source = OfQuery; place = 0; first = 0; inside = None }

-- the tables before the first step: the terms of v variables are listed, and one frame stands at the query's goals
pub record Begun (slip : List ℕ) (v : ℕ) (t : Tables) : Type 0 where
  pub sized : Sized t 1
  pub listed : (ts : List Term) (q : ℕ) → terms_at v 2 slip ≡ Ok (ts, q) → Listed slip t.table 0 ts
  pub one_frame : t.frames ≡ at_query ∷ []
  pub no_step : t.steps ≡ 0

-- a slip that passes claims only replacements that follow from the rules of the store
abbrev pub FollowsIfPassed : List (List ℕ) → List ℕ → List ℕ → Result Unit CheckFault → Type 0
FollowsIfPassed rules bs slip r =
    r ≡ Ok tt → (q : Query) → query bs ≡ Ok q → (θ : Replacement) → Claims q slip θ → QueryFollows (rules_in rules) q θ
