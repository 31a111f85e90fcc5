use Rattle.std.proofs.Common.{◌≡◌, ◌+◌, ◌-◌, ◌<◌, List, sym, refl, ap, ◌∙◌, arith}
use Rattle.terms.specs.Terms.{Rule}
use Rattle.resolution.specs.declared.Word.{Word}
use Rattle.resolution.specs.declared.Word.TheVariants.{Answer, Spent, Stopped, NoMore}
use Rattle.resolution.specs.Lines.{lines}
use Rattle.branches.specs.Moves.{due_at, attempted}
use Rattle.machine.specs.Machines.{place}
use Rattle.engine.specs.declared.search.Search.{Search}
use Rattle.engine.specs.Models.{rules_of, query_of}
use Rattle.engine.proofs.Turns.{off_no, line_answer, line_back, line_none, stop_spent, rule_spent, line_stopped, line_tried}
use Rattle.engine.proofs.Nexts.{goes_on_with, ends_with, due_here, Done, done_at, standing_none}
use Rattle.engine.proofs.search.Search.next.Goals as goal
use Rattle.engine.proofs.search.Search.next.Goals.{in-Standing-default-default+then-not-back, in-Running-Nothing-default, in-Running-NoRule-default+then-not-back-2, in-Running-Stop-true, in-Running-Stop-false, in-Running-Rule-true}

-- A step was taken off, and the lines go on from there.
pub lines-preserved-else-not-back-2 : goal.lines-preserved-else-not-back-2
lines-preserved-else-not-back-2 c =
    let s₀ = c.args.self.now in
    let s = c.lines.self in
    let p = place s.machine in
    let runs = c.in-Running-NoRule-default.is-0 in
    let e = c.if-not-back-2.ensures in
    let due = due_here s₀ s c.args.allowance c.lines.tries c.lines.invariant runs (λ (rs : List Rule). due_at rs p) _ (sym c.in-Running-NoRule-default.is-1 ∙ c.due.ensures) in
    goes_on_with s₀ s c.args.allowance c.lines.tries c.lines.invariant runs
    (record { machine = c.back-in-Running-NoRule-default.new.self; condition = s.condition; tries = s.tries; answers = s.answers }) c.lines.tries c.lines.invariant.0
    e.rules e.query refl refl refl
    (line_back (rules_of s₀) (c.args.allowance - c.lines.tries) p due (sym e.value) ∙ ap (lines (rules_of s₀) (c.args.allowance - c.lines.tries)) (sym e.place))

-- A try was made, and the lines go on with one try less.
pub lines-preserved : goal.lines-preserved
lines-preserved c =
    let s₀ = c.args.self.now in
    let s = c.lines.self in
    let p = place s.machine in
    let runs = c.in-Running-Rule-false.is-0 in
    let e = c.attempt.ensures in
    let due = due_here s₀ s c.args.allowance c.lines.tries c.lines.invariant runs (λ (rs : List Rule). due_at rs p) _ (sym c.in-Running-Rule-false.is-1 ∙ c.due.ensures) in
    let less : c.lines.tries < c.args.allowance = omega (arith, c.lines.invariant.0, c.in-Running-Rule-false.is-2) in
    goes_on_with s₀ s c.args.allowance c.lines.tries c.lines.invariant runs
    (record { machine = c.attempt.new.self; condition = s.condition; tries = s.tries; answers = s.answers }) (c.lines.tries + 1) (omega (arith, less))
    e.rules e.query refl refl refl
    (line_tried (rules_of s₀) (c.args.allowance - c.lines.tries) (c.args.allowance - (c.lines.tries + 1)) p due (omega (arith, less))
    ∙ ap (lines (rules_of s₀) (c.args.allowance - (c.lines.tries + 1))) (ap (λ (rs : List Rule). attempted rs p) (sym c.lines.invariant.1) ∙ sym e.place))

over : (c : goal.After-settle) → Done c.args.self.now c.settle.new.self c.match-self.word c.args.allowance c.lines.tries
over c =
    let s₀ = c.args.self.now in
    let s = c.lines.self in
    let a = c.args.allowance in
    let n = c.lines.tries in
    let inv = c.lines.invariant in
    let p = place s.machine in
    let e = c.settle.ensures in
    let at = done_at s₀ s c.match-self.self c.settle.new.self a n inv c.if-allowance-gt-MOST_TRIES.false c.match-self.word in
    let here = λ (v : Word) (is : c.match-self.word ≡ v) (same : c.match-self.self ≡ s). at v is (ap rules_of same) (ap query_of same) (ap (λ (x : Search). x.tries) same) (ap (λ (x : Search). x.answers) same) (ap (λ (x : Search). place x.machine) same) in
    elim c.match-self.branch [
      | in-Standing-default-default+then-not-back w ↦
          (let o = w.if-not-back.ensures in
          let no = off_no (a - n) p.branch p (sym o.value) in
          at NoMore w.word-is (ap rules_of w.self-is ∙ o.rules) (ap query_of w.self-is ∙ o.query) (ap (λ (x : Search). x.tries) w.self-is) (ap (λ (x : Search). x.answers) w.self-is)
          (ap (λ (x : Search). place x.machine) w.self-is ∙ o.place ∙ no.1) (standing_none s₀ s a n inv w.in-Standing-default-default.is-0 (sym o.value)) e.machine e.condition e.tries e.answers)
      | in-Running-Nothing-default w ↦
          (let runs = w.in-Running-Nothing-default.is-0 in
          let due = due_here s₀ s a n inv runs (λ (rs : List Rule). due_at rs p) _ (sym w.in-Running-Nothing-default.is-1 ∙ c.due.ensures) in
          here Answer w.word-is w.self-is (ends_with s₀ s a n inv runs _ (line_answer (rules_of s₀) (a - n) p due)) e.machine e.condition e.tries e.answers)
      | in-Running-NoRule-default+then-not-back-2 w ↦
          (let o = w.if-not-back-2.ensures in
          let no = off_no (a - n) p.branch p (sym o.value) in
          let runs = w.in-Running-NoRule-default.is-0 in
          let due = due_here s₀ s a n inv runs (λ (rs : List Rule). due_at rs p) _ (sym w.in-Running-NoRule-default.is-1 ∙ c.due.ensures) in
          at NoMore w.word-is (ap rules_of w.self-is ∙ o.rules) (ap query_of w.self-is ∙ o.query) (ap (λ (x : Search). x.tries) w.self-is) (ap (λ (x : Search). x.answers) w.self-is)
          (ap (λ (x : Search). place x.machine) w.self-is ∙ o.place ∙ no.1) (ends_with s₀ s a n inv runs _ (line_none (rules_of s₀) (a - n) p due (sym o.value))) e.machine e.condition e.tries e.answers)
      | in-Running-Stop-true w ↦
          (let runs = w.in-Running-Stop-true.is-0 in
          let due = due_here s₀ s a n inv runs (λ (rs : List Rule). due_at rs p) _ (sym w.in-Running-Stop-true.is-1 ∙ c.due.ensures) in
          here Spent w.word-is w.self-is (ends_with s₀ s a n inv runs _ (stop_spent (rules_of s₀) (a - n) p _ due (omega (arith, w.in-Running-Stop-true.is-2)))) e.machine e.condition e.tries e.answers)
      | in-Running-Stop-false w ↦
          (let runs = w.in-Running-Stop-false.is-0 in
          let due = due_here s₀ s a n inv runs (λ (rs : List Rule). due_at rs p) _ (sym w.in-Running-Stop-false.is-1 ∙ c.due.ensures) in
          here (Stopped w.in-Running-Stop-false.why) w.word-is w.self-is (ends_with s₀ s a n inv runs _ (line_stopped (rules_of s₀) (a - n) p _ due (omega (arith, w.in-Running-Stop-false.is-2, inv.0)))) e.machine e.condition e.tries e.answers)
      | in-Running-Rule-true w ↦
          (let runs = w.in-Running-Rule-true.is-0 in
          let due = due_here s₀ s a n inv runs (λ (rs : List Rule). due_at rs p) _ (sym w.in-Running-Rule-true.is-1 ∙ c.due.ensures) in
          here Spent w.word-is w.self-is (ends_with s₀ s a n inv runs _ (rule_spent (rules_of s₀) (a - n) p due (omega (arith, w.in-Running-Rule-true.is-2)))) e.machine e.condition e.tries e.answers)
    ]

pub returns : goal.returns
returns c = let d = over c in record { result = d.result; search = d.search; rules = d.rules; query = d.query }
