-- Rules that are copied into a text one after the other. Assumes nothing.
use Rattle.std.specs.Prelude.{ℕ, ◌+◌, List, [], ◌∷◌, ◌++◌, length}
use Rattle.terms.specs.declared.Form.TheVariants.{Rules}
use Rattle.terms.specs.Terms.{Rule}
use Rattle.terms.specs.Bytes.{encoding}
use Rattle.grammar.specs.Singles.{header_size, rule}
use Rattle.slips.specs.Opening.{rule_or_none}
use Rattle.branches.specs.declared.Clause.{Clause}

-- the bytes of all of them
abbrev pub flat : List (List ℕ) → List ℕ
flat [] = []
flat (t ∷ ts) = t ++ flat ts

-- where the parts of a rule stand that is copied to p
abbrev pub clause_of : ℕ → Rule → Clause
clause_of p r =
    record { head = p + header_size; body = p + header_size + length (encoding Rules r.head); variables = r.variables; goals = length r.goals }

-- the clauses of rules that are copied from p on
abbrev pub clauses_from : ℕ → List (List ℕ) → List Clause
clauses_from p [] = []
clauses_from p (t ∷ ts) = clause_of p (rule_or_none (rule t)) ∷ clauses_from (p + length t) ts
