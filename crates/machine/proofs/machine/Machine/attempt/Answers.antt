use Rattle.std.proofs.Common.{◌≡◌, ℕ, suc, ◌+◌, List, length, sym, refl, ap, arith, rules}
use Rattle.branches.specs.declared.Clause.{Clause}
use Rattle.branches.specs.declared.Due.TheVariants.{Rule}
use Rattle.branches.specs.Clauses.{clause}
use Rattle.branches.specs.Moves.{due_at}
use Rattle.branches.specs.declared.Goals.{Goals}
use Rattle.machine.specs.declared.tables.Tables.{Tables}
use Rattle.machine.specs.Machines.{rules as rules_in, place, state}
use Rattle.machine.specs.States.{State, Good}
use Rattle.machine.proofs.States.{SameBook, true_good}
use Rattle.machine.proofs.Attempts.{can_rule, can_try, ready, failed_good, failed_is, Took, climbing, some_step, taken_good, taken_is}
use Rattle.machine.proofs.machine.Machine.attempt.Goals as goal
use Rattle.machine.proofs.machine.Machine.attempt.Goals.{After-deref}

module _ (c : After-deref) where
  -- what it stands on, and the clause that is due
  abbrev here : State
  here = state c.args.self.now

  abbrev due : Clause
  due = clause c.deref.result.now here.due

  in_order : Good here
  in_order = true_good here c.args.self.now.kept

  rule_due : due_at (rules_in c.args.self.now) (place c.args.self.now) ≡ Rule
  rule_due = sym c.in-Rule.ensures

  is : due ≡ clause here.clauses here.due
  is = ap (λ (cs : List Clause). clause cs here.due) c.deref.ensures.0

pub bounds-deref-self : goal.bounds-deref-self
bounds-deref-self c =
    let d = (goal.at.bounds-deref-self c).After-deref in
    omega (arith, can_rule (here d) (in_order d) (rule_due d), ap length c.deref.ensures.0)

pub try_rule-requires : goal.try_rule-requires
try_rule-requires c =
    let d = (goal.at.try_rule-requires c).After-deref in
    record {
      ready = ready (here d) (in_order d) (rule_due d) (due d) (is d);
      room = ((in_order d).depth, (can_try (here d) (in_order d) (rule_due d) (due d) (is d)).shallow);
    }

pub overflow_add-self : goal.overflow_add-self
overflow_add-self c =
    let d = (goal.at.overflow_add-self c).After-deref in
    let l = can_rule (here d) (in_order d) (rule_due d) in
    let m = (in_order d).count in
    search rules

-- ── the try failed ──

abbrev failed : After-deref → Tables → State
failed c t = record { tables = t; clauses = (here c).clauses; question = (here c).question; goals = (here c).goals; due = (here c).due + 1 }

next : (n : ℕ) → n + 1 ≡ suc n
next n = omega arith

pub invariant_of-self : goal.invariant_of-self
invariant_of-self c =
    let d = (goal.at.invariant_of-self c).After-deref in
    let e = c.if-not-try_rule.ensures in
    let book : SameBook (here d) (failed d c.try_rule.new.self) = record { text = e.text; clauses = refl; question = refl } in
    record { kept = failed_good (here d) (in_order d) (rule_due d) (due d) (is d) (failed d c.try_rule.new.self) book e.tried (e.left refl) refl (next (here d).due) }

pub returns-then-not-try_rule-clause-place : goal.returns-then-not-try_rule-clause-place
returns-then-not-try_rule-clause-place c =
    let d = (goal.at.returns-then-not-try_rule-clause-place c).After-deref in
    let e = c.if-not-try_rule.ensures in
    let book : SameBook (here d) (failed d c.try_rule.new.self) = record { text = e.text; clauses = refl; question = refl } in
    failed_is (here d) (in_order d) (rule_due d) (due d) (is d) (failed d c.try_rule.new.self) book e.tried (e.left refl) refl (next (here d).due)

-- ── the rule was taken ──

abbrev went_on : After-deref → Tables → Goals → State
went_on c t g = record { tables = t; clauses = (here c).clauses; question = (here c).question; goals = g; due = 0 }

pub goals_with-self-requires : goal.goals_with-self-requires
goals_with-self-requires c =
    let d = (goal.at.goals_with-self-requires c).After-deref in
    let e = c.if-not-try_rule.ensures in
    let k : Took (here d) (due d) c.try_rule.new.self = record { text = e.text; tried = e.tried; depth = e.depth; steps = e.steps refl } in
    record {
      climbing = λ z. climbing (here d) (in_order d) (rule_due d) (due d) (is d) c.try_rule.new.self k;
      some = some_step (here d) (in_order d) (rule_due d) (due d) (is d) c.try_rule.new.self k;
    }

pub invariant_of-self-2 : goal.invariant_of-self-2
invariant_of-self-2 c =
    let d = (goal.at.invariant_of-self-2 c).After-deref in
    let t = c.try_rule.new.self in
    let e = c.if-not-try_rule.ensures in
    let o = c.goals_with-self.ensures in
    let k : Took (here d) (due d) t = record { text = e.text; tried = e.tried; depth = e.depth; steps = e.steps refl } in
    let book : SameBook (here d) (went_on d t c.goals_with-self.result) = record { text = e.text; clauses = refl; question = refl } in
    record { kept = taken_good (here d) (in_order d) (rule_due d) (due d) (is d) t k (went_on d t c.goals_with-self.result) book refl refl o.own o.behind }

pub returns-clause-place : goal.returns-clause-place
returns-clause-place c =
    let d = (goal.at.returns-clause-place c).After-deref in
    let t = c.try_rule.new.self in
    let e = c.if-not-try_rule.ensures in
    let o = c.goals_with-self.ensures in
    let k : Took (here d) (due d) t = record { text = e.text; tried = e.tried; depth = e.depth; steps = e.steps refl } in
    let book : SameBook (here d) (went_on d t c.goals_with-self.result) = record { text = e.text; clauses = refl; question = refl } in
    taken_is (here d) (in_order d) (rule_due d) (due d) (is d) t k (went_on d t c.goals_with-self.result) book refl refl o.own o.behind
