-- What is read, without the references in it. Assumes nothing.
use Rattle.std.specs.Prelude.{ℕ, ◌+◌, ◌&&◌, List, [], ◌∷◌, length, take, drop, Ok, Err, Result, ◌==◌, nat_le}
use Rattle.std.specs.Borrow.{Bor}
use Rattle.terms.specs.declared.Form.TheVariants.{Rules}
use Rattle.terms.specs.Terms.{Term, Rule, Query}
use Rattle.terms.specs.Bytes.{encoding, encodings}
use Rattle.grammar.specs.declared.faults.RuleFault.{RuleFault}
use Rattle.grammar.specs.declared.faults.RuleFault.TheVariants.{Command, Variables, Goals, Length}
use Rattle.grammar.specs.declared.faults.SingleFault.{SingleFault}
use Rattle.grammar.specs.declared.faults.SingleFault.TheVariants.{Inside, Start, BytesLeft}
use Rattle.grammar.specs.Asking.{ask, go}
use Rattle.grammar.specs.TermCommands.{commands, terms}
use Rattle.grammar.specs.Singles.{Header, header_size, most_variables, most_goals, longest, header, used_up, body, rule_due, rule_of, query_due, query_of}
use Rattle.reading.specs.declared.headers.Header.{Header as ReadHeader}
use Rattle.reading.specs.declared.rules.Rule.{Rule as ReadRule}
use Rattle.reading.specs.declared.rules.Query.{Query as ReadQuery}

abbrev pub seen : {T U E : Type 0} → (T → U) → Result T E → Result U E
seen f (Ok x) = Ok (f x)
seen f (Err e) = Err e

abbrev pub header_view : ReadHeader → Header
header_view h = record { variables = h.variables; goals = h.goals; size = h.size; rest = h.rest.now }

-- the bytes of the terms under a header at p, within the limits
abbrev pub frame_bytes : ℕ → Header → Result (List ℕ) RuleFault
frame_bytes p h =
    ask (nat_le h.variables most_variables) (Variables p)
    (ask (nat_le h.goals most_goals) (Goals p)
    (ask (nat_le h.size longest && nat_le h.size (length h.rest)) (Length p)
    (Ok (take h.size h.rest))))

-- a rule with its place, and the bytes and the places of its head and of its goals
pub record RuleView : Type 0 where
  pub place : ℕ
  pub variables : ℕ
  pub goals : ℕ
  pub head : List ℕ
  pub head_place : ℕ
  pub body : List ℕ
  pub body_place : ℕ

abbrev pub rule_view : ReadRule → RuleView
rule_view r =
    record { place = r.place; variables = r.variables; goals = r.goals; head = r.head.now; head_place = r.head_place; body = r.body.now; body_place = r.body_place }

abbrev pub rule_shown : ℕ → Rule → RuleView
rule_shown p r =
    record {
      place = p;
      variables = r.variables;
      goals = length r.goals;
      head = encoding Rules r.head;
      head_place = p + header_size;
      body = encodings Rules r.goals;
      body_place = p + header_size + length (encoding Rules r.head);
    }

pub record QueryView : Type 0 where
  pub variables : ℕ
  pub goals : ℕ
  pub body : List ℕ
  pub body_place : ℕ

abbrev pub query_view : ReadQuery → QueryView
query_view q = record { variables = q.variables; goals = q.goals; body = q.body.now; body_place = q.body_place }

abbrev pub query_shown : Query → QueryView
query_shown q = record { variables = q.variables; goals = length q.goals; body = encodings Rules q.goals; body_place = header_size }

-- two parts of the bytes
abbrev pub both_views : (Bor (List ℕ)) × (Bor (List ℕ)) → List ℕ × List ℕ
both_views r = (r.0.now, r.1.now)

-- the bytes of a head of m terms and of n goals, over v variables, in a frame that begins at p
abbrev pub parts_of : ℕ → List Term → Result (List ℕ × List ℕ) RuleFault
parts_of m ts = Ok (encodings Rules (take m ts), encodings Rules (drop m ts))

abbrev pub parts_read : ℕ → ℕ → ℕ → ℕ → List ℕ → Result (List ℕ × List ℕ) RuleFault
parts_read v m n p bs = go (used_up (terms v (m + n) (commands Rules p bs))) (λ e. e) (parts_of m)

-- the rule, and the query, under a header
abbrev pub rule_under : ℕ → Header → Result RuleView RuleFault
rule_under p h = go (body (rule_due h) p h) (λ e. e) (λ ts. Ok (rule_shown p (rule_of h.variables ts)))

abbrev pub query_under : Header → Result QueryView RuleFault
query_under h = go (body (query_due h) 0 h) (λ e. e) (λ ts. Ok (query_shown (query_of h.variables ts)))

-- the header of a rule or a query that stands by itself and begins with its byte
abbrev pub single_header : ℕ → List ℕ → Result Header SingleFault
single_header byte [] = Err (Start 0)
single_header byte (b ∷ bs) = ask (b == byte) (Start 0) (go (header 0 bs) (λ e. Inside (Command e)) (λ h. Ok h))

-- the bytes end with the terms under the header
abbrev pub single_end : Header → Result Unit SingleFault
single_end h = ask (nat_le (length h.rest) h.size) (BytesLeft (header_size + h.size)) (Ok tt)
