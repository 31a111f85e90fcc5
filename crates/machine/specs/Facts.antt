-- Unification of two facts that are given as bytes. Assumes nothing.
use Rattle.std.specs.Prelude.{ℕ, List, Some, None, Ok, Err, Option as Maybe, Result}
use Rattle.std.proofs.Math.Option.{Option, none, some}
use Rattle.terms.specs.declared.Form.TheVariants.{Rules}
use Rattle.terms.specs.Terms.{Term, Rule}
use Rattle.terms.specs.Bytes.{encoding}
use Rattle.grammar.specs.declared.faults.SingleFault.{SingleFault}
use Rattle.grammar.specs.Asking.{go}
use Rattle.grammar.specs.Singles.{rule}
use Rattle.unification.specs.Variables.{shifted}
use Rattle.unification.specs.Substitutions.{Substitution, apply}
use Rattle.unification.specs.Unification.{unify}
use Rattle.machine.specs.declared.facts.FactsFault.{FactsFault}
use Rattle.machine.specs.declared.facts.FactsFault.TheVariants.{Reading, NoRoom}
use Rattle.machine.specs.Sinks.{fitting, written}

-- the term with what was found put in
abbrev pub instance_by : Option Substitution → Term → Option Term
instance_by none t = none
instance_by (some σ) t = some (apply σ t)

-- the common instance of two heads, the variables of the first numbered after those of the second
abbrev pub common : Rule → Rule → Option Term
common a b = instance_by (unify (shifted b.variables a.head) b.head) b.head

-- both are read as single rules, the first one first
abbrev pub common_of : List ℕ → List ℕ → Result (Option Term) SingleFault
common_of left right = go (rule left) (λ e. e) (λ a. go (rule right) (λ e. e) (λ b. Ok (common a b)))

-- the length of what was written
abbrev pub by_length : Maybe ℕ → Result (Maybe ℕ) FactsFault
by_length (Some n) = Ok (Some n)
by_length None = Err NoRoom

-- what is told of an instance, and the buffer after that
abbrev pub told : Option Term → List ℕ → Result (Maybe ℕ) FactsFault
told none buffer = Ok None
told (some t) buffer = by_length (fitting (encoding Rules t) buffer)

abbrev pub buffer_with : Option Term → List ℕ → List ℕ
buffer_with none buffer = buffer
buffer_with (some t) buffer = written (encoding Rules t) buffer

-- the result, and the buffer after it; a refusal leaves it as it was
abbrev pub outcome : Result (Option Term) SingleFault → List ℕ → Result (Maybe ℕ) FactsFault
outcome (Ok t) buffer = told t buffer
outcome (Err e) buffer = Err (Reading e)

abbrev pub buffer_after : Result (Option Term) SingleFault → List ℕ → List ℕ
buffer_after (Ok t) buffer = buffer_with t buffer
buffer_after (Err e) buffer = buffer
