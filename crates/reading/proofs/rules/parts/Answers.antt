use Rattle.std.proofs.lemmas.Result.{err_from_is_err_and}
use Rattle.reading.specs.Views.{both_views}
use Rattle.reading.proofs.Parts.{known, head_refused, goals_refused, end_refused, accepted}
use Rattle.reading.proofs.rules.parts.Goals as goal

pub returns-in_err-terms-clause-value : goal.returns-in_err-terms-clause-value
returns-in_err-terms-clause-value c =
    let p = err_from_is_err_and c.from_residual.result c.from_residual.ensures.1 in
    head_refused c.args.variables c.args.heads c.args.goals c.args.place c.args.frame.now
    both_views _ _ _ p.1 p.2 c.in_err-terms.ensures.value

pub returns-in_err-terms-2-clause-value : goal.returns-in_err-terms-2-clause-value
returns-in_err-terms-2-clause-value c =
    let p = err_from_is_err_and c.from_residual-in_err-terms-2.result c.from_residual-in_err-terms-2.ensures.1 in
    goals_refused c.args.variables c.args.heads c.args.goals c.args.place c.args.frame.now
    c.terms.new.self.place c.terms.new.self.bytes.now c.in_ok-terms.ensures.value
    both_views _ _ _ p.1 p.2 c.in_err-terms-2.ensures.value

pub returns-in_err-finish-clause-value : goal.returns-in_err-finish-clause-value
returns-in_err-finish-clause-value c =
    let p = err_from_is_err_and c.from_residual-in_err-finish.result c.from_residual-in_err-finish.ensures.1 in
    end_refused c.args.variables c.args.heads c.args.goals c.args.place c.args.frame.now
    c.terms.new.self.place c.terms.new.self.bytes.now c.in_ok-terms.ensures.value
    c.terms-2.new.self.place c.terms-2.new.self.bytes.now c.in_ok-terms-2.ensures.value
    both_views _ _ _ p.1 p.2 c.in_err-finish.ensures

pub returns-clause-value : goal.returns-clause-value
returns-clause-value c =
    accepted c.args.variables c.args.heads c.args.goals c.args.place c.args.frame.now
    c.terms.new.self.place c.terms.new.self.bytes.now c.in_ok-terms.ensures.value
    c.terms-2.new.self.place c.terms-2.new.self.bytes.now c.in_ok-terms-2.ensures.value
    _ _ _ (known c.args.frame.now c.type_inv.frame) c.in_ok-terms.ensures.went c.in_ok-finish.ensures
    c.split_at.ensures.front c.split_at.ensures.back
