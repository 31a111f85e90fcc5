-- Reading a rule or a query. Assumes nothing.
use Rattle.std.specs.Prelude.{ℕ, suc, ◌+◌, ◌*◌, ◌&&◌, List, [], ◌∷◌, length, take, Ok, Err, Result, ◌==◌, nat_le}
use Rattle.terms.specs.declared.Form.TheVariants.{Rules}
use Rattle.terms.specs.Terms.{Term, atom, Rule, Query}
use Rattle.grammar.specs.declared.faults.CommandFault.{CommandFault}
use Rattle.grammar.specs.declared.faults.CommandFault.TheVariants.{Operands}
use Rattle.grammar.specs.declared.faults.RuleFault.{RuleFault}
use Rattle.grammar.specs.declared.faults.RuleFault.TheVariants.{Command, Variables, Goals, Length, LengthLeft}
use Rattle.grammar.specs.declared.faults.SingleFault.{SingleFault}
use Rattle.grammar.specs.declared.faults.SingleFault.TheVariants.{Inside, Start, BytesLeft}
use Rattle.grammar.specs.Refusals.{command_place}
use Rattle.grammar.specs.Asking.{ask, go}
use Rattle.grammar.specs.TermCommands.{Commands, end, unfit, next, commands, terms}

-- the most variables that a rule or a query may declare, the most goals, and the longest length
abbrev pub most_variables : ℕ
most_variables = 64

abbrev pub most_goals : ℕ
most_goals = 16

abbrev pub longest : ℕ
longest = 512

-- the first byte of a rule, and of a query
abbrev pub rule_byte : ℕ
rule_byte = 0x10

abbrev pub query_byte : ℕ
query_byte = 0x12

-- the numbers of a header, and the bytes after it
pub record Header : Type 0 where
  pub variables : ℕ
  pub goals : ℕ
  pub size : ℕ
  pub rest : List ℕ

-- how many bytes a header has
abbrev pub header_size : ℕ
header_size = 5

-- the header at p, by the bytes after its first: do its operands lie inside the frame?
abbrev pub header : ℕ → List ℕ → Result Header CommandFault
header p [] = Err (Operands p)
header p (v ∷ []) = Err (Operands p)
header p (v ∷ g ∷ []) = Err (Operands p)
header p (v ∷ g ∷ h ∷ []) = Err (Operands p)
header p (v ∷ g ∷ h ∷ l ∷ rest) = Ok (record { variables = v; goals = g; size = h * 256 + l; rest = rest })

-- is the length used up after the last term?
abbrev pub used_up : Result (List Term × Commands) RuleFault → Result (List Term) RuleFault
used_up (Ok (ts, end p)) = Ok ts
used_up (Ok (ts, unfit e)) = Err (LengthLeft (command_place e))
used_up (Ok (ts, next p c cs)) = Err (LengthLeft p)
used_up (Err e) = Err e

-- the terms under a header at p, of which so many are due: are there too many variables or goals, is the
-- length too large or larger than the bytes left, and then the questions of its terms
abbrev pub body : ℕ → ℕ → Header → Result (List Term) RuleFault
body due p h =
    ask (nat_le h.variables most_variables) (Variables p)
    (ask (nat_le h.goals most_goals) (Goals p)
    (ask (nat_le h.size longest && nat_le h.size (length h.rest)) (Length p)
    (used_up (terms h.variables due (commands Rules (p + header_size) (take h.size h.rest))))))

-- a rule or a query by itself: does it begin with its byte, then its header and its terms, and do the bytes end there?
abbrev pub single : {T : Type 0} → ℕ → (Header → ℕ) → (ℕ → List Term → T) → List ℕ → Result T SingleFault
single byte due make [] = Err (Start 0)
single byte due make (b ∷ bs) =
    ask (b == byte) (Start 0)
    (go (header 0 bs) (λ e. Inside (Command e)) (λ h.
    go (body (due h) 0 h) Inside (λ ts.
    ask (nat_le (length h.rest) h.size) (BytesLeft (header_size + h.size))
    (Ok (make h.variables ts)))))

-- a rule's head is one term more than its goals
abbrev pub rule_due : Header → ℕ
rule_due h = suc h.goals

-- the rule of these terms, the head first
abbrev pub rule_of : ℕ → List Term → Rule
rule_of v [] = record { variables = v; head = atom 0; goals = [] }
rule_of v (t ∷ ts) = record { variables = v; head = t; goals = ts }

abbrev pub rule : List ℕ → Result Rule SingleFault
rule bs = single rule_byte rule_due rule_of bs

abbrev pub query_due : Header → ℕ
query_due h = h.goals

abbrev pub query_of : ℕ → List Term → Query
query_of v ts = record { variables = v; goals = ts }

abbrev pub query : List ℕ → Result Query SingleFault
query bs = single query_byte query_due query_of bs
