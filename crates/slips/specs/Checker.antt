-- The checker's questions, and what a slip claims. Assumes nothing.
use Rattle.std.specs.Prelude.{ℕ, zero, suc, ◌+◌, ◌*◌, Bool, false, ◌&&◌, List, [], ◌∷◌, ◌++◌, map, length, drop, Ok, Err, Result, ◌==◌, nat_lt}
use Rattle.terms.specs.declared.Form.TheVariants.{Slips}
use Rattle.terms.specs.Terms.{Term, var, atom, pair, Rule, Query}
use Rattle.grammar.specs.declared.faults.CommandFault.{CommandFault}
use Rattle.grammar.specs.declared.faults.CommandFault.TheVariants.{Operands}
use Rattle.grammar.specs.declared.faults.RuleFault.{RuleFault}
use Rattle.grammar.specs.declared.faults.RuleFault.TheVariants.{Command}
use Rattle.grammar.specs.Asking.{ask, go}
use Rattle.grammar.specs.TermCommands.{Commands, place_of, commands, terms}
use Rattle.grammar.specs.Singles.{query}
use Rattle.unification.specs.Ground.{Replacement}
use Rattle.resolution.specs.Rules.{rule}
use Rattle.resolution.specs.Cells.{present}
use Rattle.resolution.specs.Follows.{Covers}
use Rattle.resolution.specs.Limits.{step_limit}
use Rattle.slips.specs.declared.faults.SlipFault.TheVariants.{Reading, Opening, NoStep, TooManySteps, NoRule, OtherGoal, NoEnd}
use Rattle.slips.specs.declared.faults.CheckFault.{CheckFault}
use Rattle.slips.specs.declared.faults.CheckFault.TheVariants.{InQuery, InSlip}
use Rattle.slips.specs.Slips.{answer_byte, step_byte, end_byte}

-- ── the parts of a slip ──

-- every number of two bytes may be an unknown's
abbrev pub unknowns : ℕ
unknowns = 65536

-- no rule has this number, however many there are
abbrev pub no_number : ℕ
no_number = 65535

abbrev pub placed : Result (List Term × Commands) RuleFault → Result (List Term × ℕ) RuleFault
placed (Ok (ts, left)) = Ok (ts, place_of left)
placed (Err e) = Err e

-- n terms from the place p of the slip on, and the place after them; the whole slip is the frame
abbrev pub terms_at : ℕ → ℕ → List ℕ → Result (List Term × ℕ) RuleFault
terms_at n p slip = placed (terms unknowns n (commands Slips p (drop p slip)))

-- the bytes begin with b
abbrev pub begins : ℕ → List ℕ → Bool
begins b [] = false
begins b (x ∷ xs) = x == b

-- the bytes are b alone
abbrev pub is_only : ℕ → List ℕ → Bool
is_only b [] = false
is_only b (x ∷ []) = x == b
is_only b (x ∷ y ∷ xs) = false

-- the slip opens with `20` and the number n
abbrev pub opens : ℕ → List ℕ → Bool
opens n [] = false
opens n (x ∷ []) = false
opens n (x ∷ y ∷ xs) = x == answer_byte && y == n

-- the operands of the step at p, by the bytes after its first: a rule number and a count of variables
abbrev pub step_operands : ℕ → List ℕ → Result (ℕ × ℕ) CommandFault
step_operands p [] = Err (Operands p)
step_operands p (h ∷ []) = Err (Operands p)
step_operands p (h ∷ l ∷ []) = Err (Operands p)
step_operands p (h ∷ l ∷ v ∷ bs) = Ok (h * 256 + l, v)

-- how many bytes a step has before its terms
abbrev pub step_size : ℕ
step_size = 4

-- there is a rule with the number i, and it declares v variables
abbrev pub has_rule : List Rule → ℕ → ℕ → Bool
has_rule rs i v = nat_lt i (length rs) && (nat_lt i no_number && v == (rule rs i).variables)

-- two terms are the same, unknowns by their numbers
abbrev pub same : Term → Term → Bool
same (var x) (var y) = x == y
same (var x) (atom b) = false
same (var x) (pair u w) = false
same (atom a) (var y) = false
same (atom a) (atom b) = a == b
same (atom a) (pair u w) = false
same (pair s t) (var y) = false
same (pair s t) (atom b) = false
same (pair s t) (pair u w) = same s u && same t w

-- ── the questions ──

-- a step at p that is to show the goal g, when n steps are done. In this order: its first byte, its operands, room for one
-- more step, its rule, its terms, and its head, which must be g. Then `more` gets what is to be shown for its rule's goals,
-- and the place behind it.
abbrev pub step : List Rule → List ℕ → ℕ → ℕ → Term → (List Term → ℕ → Result Unit CheckFault) → Result Unit CheckFault
step rs slip n p g more =
    ask (begins step_byte (drop p slip)) (InSlip (NoStep p) n)
    (go (step_operands p (drop (suc p) slip)) (λ e. InSlip (Reading (Command e)) n) (λ o.
    ask (nat_lt n step_limit) (InSlip (TooManySteps p) n)
    (ask (has_rule rs o.0 o.1) (InSlip (NoRule p) n)
    (go (terms_at o.1 (p + step_size) slip) (λ e. InSlip (Reading e) n) (λ t.
    ask (same (present t.0 (rule rs o.0).head) g) (InSlip (OtherGoal p) n)
    (more (map (present t.0) (rule rs o.0).goals) t.1))))))

-- from the place p on, when n steps are done, the slip must show these goals, the first of them next; what a step asks for
-- comes before the others. Once nothing is to be shown, `2F` must close the slip. Only `left` more steps are looked into:
-- with none of these left 512 are done, and a step has no room.
abbrev pub steps : List Rule → List ℕ → ℕ → ℕ → ℕ → List Term → Result Unit CheckFault
steps rs slip left n p [] = ask (is_only end_byte (drop p slip)) (InSlip (NoEnd p) n) (Ok tt)
steps rs slip zero n p (g ∷ goals) = step rs slip n p g (λ own q. Err (InSlip (TooManySteps p) n))
steps rs slip (suc left) n p (g ∷ goals) = step rs slip n p g (λ own q. steps rs slip left (suc n) q (own ++ goals))

-- the query is read, then the slip's opening and first terms, and then its steps
abbrev pub check : List Rule → List ℕ → List ℕ → Result Unit CheckFault
check rs bs slip =
    go (query bs) InQuery (λ q.
    ask (opens q.variables slip) (InSlip Opening 0)
    (go (terms_at q.variables 2 slip) (λ e. InSlip (Reading e) 0) (λ t.
    steps rs slip step_limit 0 t.1 (map (present t.0) q.goals))))

-- ── claims ──

abbrev pub Claimed : ℕ → Result (List Term × ℕ) RuleFault → Replacement → Type 0
Claimed n (Ok t) θ = Covers n t.0 θ
Claimed n (Err e) θ = ⊥

-- what the terms at the front of a slip or of an answer may turn into, once something is put for their unknowns
abbrev pub Claims : Query → List ℕ → Replacement → Type 0
Claims q bytes θ = Claimed q.variables (terms_at q.variables 2 bytes) θ
