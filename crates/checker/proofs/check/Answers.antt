use Rattle.std.proofs.Common.{◌≡◌, length, Err, OnOk, sym, refl, ap, ◌∙◌, subst, arith, rules}
use Rattle.std.proofs.lemmas.Result.{err_from_is_err_and}
use Rattle.reading.specs.Views.{seen, query_view}
use Rattle.reading.proofs.Parts.{known}
use Rattle.comparing.specs.Runs.{counted_by, Begun}
use Rattle.comparing.specs.Texts.{Sources}
use Rattle.comparing.proofs.Runs.{QueryRead, query_read, not_begun, Start, start, mapped, counted_ok, counted_err, follows}
use Rattle.checker.specs.Progress.{tables}
use Rattle.checker.proofs.check.Given as given
use Rattle.checker.proofs.check.Goals as goal
use Rattle.checker.proofs.check.Goals.{In_ok-asked, After-map_err, In_ok-map_err}

-- the query that was read
asked : (g : given.Over) (c : In_ok-asked g) → QueryRead c.args.query.now (query_view c.in_ok-asked.asked)
asked g c = query_read c.args.query.now (query_view c.in_ok-asked.asked) (known c.args.query.now c.type_inv.query) c.in_ok-asked.ensures

abbrev checked_by : (g : given.Over) (c : In_ok-asked g) → Sources
checked_by g c = record { rules = g.S.Store.rules c.args.store.now; body = c.in_ok-asked.asked.body.now; slip = c.args.slip.now }

pub invariant_of-texts : goal.invariant_of-texts
invariant_of-texts g c =
    let k = asked g (goal.at.invariant_of-texts g c).In_ok-asked in
    record { short = omega (arith, ap (λ v. length v.body) k.view, k.fit.short); countable = omega arith }

-- before the first step no step is counted
first_counted : (g : given.Over) (c : After-map_err g) → c.map_err.result ≡ counted_by 0 c.start.result
first_counted g c = mapped 0 c.start.result c.map_err.result _ (λ e d q. search rules) c.map_err.ensures.cases

pub returns-in_err-map_err : goal.returns-in_err-map_err
returns-in_err-map_err g c =
    let a = (goal.at.returns-in_err-map_err g c).In_ok-asked in
    let s = checked_by g a in
    let p = err_from_is_err_and c.from_residual-in_err-map_err.result c.from_residual-in_err-map_err.ensures.1 in
    let f = counted_err 0 c.start.result _ (sym c.in_err-map_err.was ∙ first_counted g (goal.at.returns-in_err-map_err g c).After-map_err) in
    let value = p.1 ∙ ap Err (p.2 ∙ f.2)
    ∙ not_begun s c.args.query.now (query_view c.in_ok-asked.asked) (asked g a) refl f.0 (ap (seen (λ u. c.start.new.self.place)) (sym f.1) ∙ c.start.ensures.place) in
    record { value = value; follows = follows s.rules c.args.query.now s.slip c.from_residual-in_err-map_err.result (known c.args.query.now c.type_inv.query) value }

-- the stage before the first step
started : (g : given.Over) (c : In_ok-map_err g)
    → Start (checked_by g (goal.at.In_ok-map_err g c).In_ok-asked) c.args.query.now (query_view c.in_ok-asked.asked) (asked g (goal.at.In_ok-map_err g c).In_ok-asked) refl (tables c.start.new.self)
started g c =
    let a = (goal.at.In_ok-map_err g c).In_ok-asked in
    let t = tables c.start.new.self in
    let is = counted_ok 0 c.start.result c.in_ok-map_err.field-0 (sym c.in_ok-map_err.was ∙ first_counted g (goal.at.In_ok-map_err g c).After-map_err) in
    start (checked_by g a) c.args.query.now (query_view c.in_ok-asked.asked) (asked g a) refl t (g.S.Store.fit c.args.store.now)
    (ap (seen (λ u. t.place)) (sym is) ∙ c.start.ensures.place)
    (subst (λ r. OnOk r (Begun c.args.slip.now c.in_ok-asked.asked.variables t)) is c.start.ensures.begun)

pub run-requires : goal.run-requires
run-requires g c = let s = started g (goal.at.run-requires g c).In_ok-map_err in (s.goals, s.stage)

pub returns : goal.returns
returns g c =
    let st = started g (goal.at.returns g c).In_ok-map_err in
    let value = mapped c.run.new.self.steps c.run.result c.map_err-2.result _ (λ e d q. search rules) c.map_err-2.ensures.cases ∙ c.run.ensures st.goals st.stage ∙ sym st.asks in
    record { value = value; follows = follows (g.S.Store.rules c.args.store.now) c.args.query.now c.args.slip.now c.map_err-2.result (known c.args.query.now c.type_inv.query) value }
