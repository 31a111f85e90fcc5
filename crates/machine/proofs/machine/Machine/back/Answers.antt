use Rattle.std.proofs.Common.{◌≡◌, suc, ◌+◌, Bool, false, sym, refl, ap, ◌∙◌, arith, rules}
use Rattle.machine.specs.declared.branch.Branch.{Branch}
use Rattle.machine.specs.Branches.{taken}
use Rattle.resolution.specs.Lines.{Place}
use Rattle.branches.specs.Moves.{off}
use Rattle.machine.specs.Branches.{taken}
use Rattle.machine.specs.Machines.{place as place_in, state}
use Rattle.machine.specs.States.{State, place_of, Good}
use Rattle.machine.proofs.States.{SameBook, true_good, newest_since, newest_rule, back_good, back_value, back_place, no_back}
use Rattle.machine.proofs.machine.Machine.back.Goals as goal
use Rattle.machine.proofs.machine.Machine.back.Goals.{In_default, After-back_to}

-- ── there is no step ──

stays : (c : In_default) → off (place_in c.args.self.now).branch (place_in c.args.self.now) ≡ (false, place_in c.args.self.now)
stays c = no_back (state c.args.self.now) (c.in_default.ensures.bare refl).0

pub returns-in_default-clause-value : goal.returns-in_default-clause-value
returns-in_default-clause-value c = sym (ap (λ (r : Bool × Place). r.0) (stays (goal.at.returns-in_default-clause-value c).In_default))

pub returns-in_default-clause-place : goal.returns-in_default-clause-place
returns-in_default-clause-place c =
    let s = state c.args.self.now in
    ap (λ (b : Branch). place_of (record s { tables = record s.tables { branch = b } })) (c.in_default.ensures.bare refl).1
    ∙ sym (ap (λ (r : Bool × Place). r.1) (stays (goal.at.returns-in_default-clause-place c).In_default))

-- ── there is one ──

pub back_to-requires : goal.back_to-requires
back_to-requires c =
    let m = c.args.self.now in
    (_, newest_since (state m) (true_good (state m) m.kept) c.in-Some.step (taken c.leave.new.self) c.in-Some.ensures.taken)

module _ (c : After-back_to) where
  -- what it stands on, and what it then stands on
  abbrev here : State
  here = state c.args.self.now

  abbrev there : State
  there =
      record {
        tables = record { text = here.tables.text; cells = c.back_to.new.self; branch = c.leave.new.self };
        clauses = here.clauses;
        question = here.question;
        goals = c.in-Some.step.goals;
        due = c.in-Some.step.rule + 1;
      }

  in_order : Good here
  in_order = true_good here c.args.self.now.kept

  book : SameBook here there
  book = record { text = refl; clauses = refl; question = refl }

  due : c.in-Some.step.rule + 1 ≡ suc c.in-Some.step.rule
  due = omega arith

pub overflow_add-self : goal.overflow_add-self
overflow_add-self c =
    let d = (goal.at.overflow_add-self c).After-back_to in
    let r = newest_rule (here d) (in_order d) c.in-Some.step (taken c.leave.new.self) c.in-Some.ensures.taken in
    search rules

pub invariant_of-self-2 : goal.invariant_of-self-2
invariant_of-self-2 c =
    let d = (goal.at.invariant_of-self-2 c).After-back_to in
    let e = c.back_to.ensures in
    record { kept = back_good (here d) (in_order d) c.in-Some.step (taken c.leave.new.self) c.in-Some.ensures.taken (there d) (book d) e.table e.used e.newest refl c.in-Some.ensures.depth refl (due d) }

pub returns-clause-value : goal.returns-clause-value
returns-clause-value c =
    let d = (goal.at.returns-clause-value c).After-back_to in
    back_value (here d) (in_order d) c.in-Some.step (taken c.leave.new.self) c.in-Some.ensures.taken

pub returns-clause-place : goal.returns-clause-place
returns-clause-place c =
    let d = (goal.at.returns-clause-place c).After-back_to in
    let e = c.back_to.ensures in
    back_place (here d) (in_order d) c.in-Some.step (taken c.leave.new.self) c.in-Some.ensures.taken (there d) (book d) e.table e.used e.newest refl c.in-Some.ensures.depth refl (due d)

pub leave-requires : goal.leave-requires
leave-requires c = (true_good (state c.args.self.now) c.args.self.now.kept).depth
