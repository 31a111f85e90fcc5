use Rattle.std.proofs.Common.{◌≡◌, ◌≤◌, length, refl, ◌∙◌, rules}
use Rattle.machine.specs.Machines.{state}
use Rattle.machine.specs.States.{State}
use Rattle.machine.proofs.States.{SameBook, true_good, rewind_good, rewind_place}
use Rattle.machine.proofs.machine.Machine.rewind.Goals as goal
use Rattle.machine.proofs.machine.Machine.rewind.Goals.{After-goals-self}

module _ (c : After-goals-self) where
  -- what it stands on, and what it then stands on
  abbrev here : State
  here = state c.args.self.now

  abbrev there : State
  there =
      record {
        tables = record { text = here.tables.text; cells = c.new-self.result; branch = c.clear.new.self };
        clauses = here.clauses;
        question = here.question;
        goals = c.goals-self.result;
        due = 0;
      }

  book : SameBook here there
  book = record { text = refl; clauses = refl; question = refl }

  many : length c.new-self.result.table ≡ 2048
  many = search rules

  few : here.question.variables ≤ 255
  few = search rules

pub invariant_of-self : goal.invariant_of-self
invariant_of-self c =
    let d = (goal.at.invariant_of-self c).After-goals-self in
    let e = c.new-self.ensures in
    record { kept = rewind_good (here d) (true_good (here d) c.args.self.now.kept) (there d) (book d) e.free (many d) (e.used ∙ c.from.ensures) e.newest c.clear.ensures.taken c.clear.ensures.depth c.goals-self.ensures refl (few d) }

pub returns-clause-place : goal.returns-clause-place
returns-clause-place c =
    let d = (goal.at.returns-clause-place c).After-goals-self in
    let e = c.new-self.ensures in
    rewind_place (here d) (true_good (here d) c.args.self.now.kept) (there d) (book d) e.free (many d) (e.used ∙ c.from.ensures) e.newest c.clear.ensures.taken c.clear.ensures.depth c.goals-self.ensures refl (few d)
