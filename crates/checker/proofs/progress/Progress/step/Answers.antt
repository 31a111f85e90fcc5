use Rattle.std.proofs.Common.{◌+◌, ◌∷◌, ◌++◌, [], length, Ok, Err, sym, refl, ap, ◌∙◌, subst, arith}
use Rattle.std.proofs.lemmas.Result.{err_from_is_err_and}
use Rattle.comparing.specs.Places.{Added}
use Rattle.comparing.specs.Stages.{Stepped, head_at}
use Rattle.comparing.specs.Texts.{SomeTerm, Agreed}
use Rattle.slips.specs.Opening.{rules_in}
use Rattle.comparing.proofs.Steps.{not_chosen, terms_fail, room, both_come, refuses, goes_on}
use Rattle.checker.specs.Texts.{sources}
use Rattle.checker.specs.Progress.{tables}
use Rattle.checker.proofs.progress.Progress.step.Given as given
use Rattle.checker.proofs.progress.Progress.step.Goals as goal
use Rattle.checker.proofs.progress.Progress.step.Goals.{In_ok-next, After-agree}

pub returns-in_err-step : goal.returns-in_err-step
returns-in_err-step g c = λ gl goals r.
    let s = sources g.S.Store.rules c.args.texts.now in
    let t = tables c.args.self.now in
    let p = err_from_is_err_and c.from_residual.result c.from_residual.ensures.1 in
    subst (λ x. Stepped s t gl goals x t) (sym (p.1 ∙ ap Err p.2))
    ((λ more. not_chosen (rules_in s.rules) s.slip t.steps t.place gl more _ c.in_err-step.ensures), refl)

pub read_terms-requires : goal.read_terms-requires
read_terms-requires g c =
    let r = c.requires in
    let k = room (sources g.S.Store.rules c.args.texts.now) (tables c.args.self.now) c.args.goal r.0 r.1 r.2 c.in_ok-step.step c.in_ok-step.ensures in
    omega (arith, k.0, k.2)

pub returns-in_err-next : goal.returns-in_err-next
returns-in_err-next g c = λ gl goals r.
    let s = sources g.S.Store.rules c.args.texts.now in
    let t = tables c.args.self.now in
    let p = err_from_is_err_and c.from_residual-in_err-next.result c.from_residual-in_err-next.ensures.1 in
    subst (λ x. Stepped s t gl goals x (record { table = c.read_terms.new.table.items; frames = t.frames; place = t.place; steps = t.steps })) (sym (p.1 ∙ ap Err p.2))
    ((λ more. terms_fail (rules_in s.rules) s.slip t.steps t.place gl more c.in_ok-step.step c.in_ok-step.ensures _ c.in_err-next.ensures.value), refl)

-- the terms that were read have come to the table
added : (g : given.Over) (c : In_ok-next g) → Added c.args.self.now.table.items c.read_terms.new.table.items c.in_ok-step.step.count
added g c = c.in_ok-next.ensures.added

pub agree-requires : goal.agree-requires
agree-requires g c =
    let s = sources g.S.Store.rules c.args.texts.now in
    let t = tables c.args.self.now in
    let r = c.requires in
    let h = c.in_ok-step.step in
    let k = both_come s t c.args.goal r.0 r.1 r.2 h c.in_ok-step.ensures c.read_terms.new.table.items c.in_ok-next.next (added g (goal.at.agree-requires g c).In_ok-next) c.in_ok-next.ensures.listed c.in_ok-next.ensures.value in
    record {
      head = subst (λ tb. SomeTerm s tb (head_at h.rule c.len.result)) (sym c.as_slice.ensures.value) (subst (λ n. SomeTerm s c.read_terms.new.table.items (head_at h.rule n)) (sym c.len.ensures.value) k.0);
      goal = subst (λ tb. SomeTerm s tb c.args.goal) (sym c.as_slice.ensures.value) k.1;
    }

-- the head and the goal were compared
agreed : (g : given.Over) (c : After-agree g)
    → Agreed (sources g.S.Store.rules c.args.texts.now) c.read_terms.new.table.items (head_at c.in_ok-step.step.rule (length c.args.self.now.table.items)) c.args.goal c.agree.new.head c.agree.new.goal c.agree.result
agreed g c =
    let s = sources g.S.Store.rules c.args.texts.now in
    let h = c.in_ok-step.step in
    subst (λ n. Agreed s c.read_terms.new.table.items (head_at h.rule n) c.args.goal c.agree.new.head c.agree.new.goal c.agree.result) c.len.ensures.value
    (subst (λ tb. Agreed s tb (head_at h.rule c.len.result) c.args.goal c.agree.new.head c.agree.new.goal c.agree.result) c.as_slice.ensures.value c.agree.ensures)

pub returns-then-not-agree : goal.returns-then-not-agree
returns-then-not-agree g c = λ gl goals r. (
  refuses (sources g.S.Store.rules c.args.texts.now) (tables c.args.self.now) c.args.goal gl goals r c.in_ok-step.step c.in_ok-step.ensures c.read_terms.new.table.items c.in_ok-next.next
      (added g (goal.at.returns-then-not-agree g c).In_ok-next) c.in_ok-next.ensures.listed c.in_ok-next.ensures.value c.agree.new.head c.agree.new.goal c.agree.result
      (agreed g (goal.at.returns-then-not-agree g c).After-agree) c.if-not-agree.true,
  refl,
)

pub returns : goal.returns
returns g c = λ gl goals r.
    let s = sources g.S.Store.rules c.args.texts.now in
    let t = tables c.args.self.now in
    let table = c.read_terms.new.table.items in
    subst (λ fs. Stepped s t gl goals (Ok tt) (record { table = table; frames = fs; place = c.in_ok-next.next; steps = t.steps + 1 })) (sym (c.push-2.ensures.items ∙ ap (λ fs. fs ++ c.agree.new.head ∷ []) c.push.ensures.items))
    (goes_on s t c.args.goal gl goals r c.in_ok-step.step c.in_ok-step.ensures table c.in_ok-next.next (added g (goal.at.returns g c).In_ok-next) c.in_ok-next.ensures.listed c.in_ok-next.ensures.value
    c.agree.new.head c.agree.new.goal c.agree.result (agreed g (goal.at.returns g c).After-agree) c.if-not-agree.false)
