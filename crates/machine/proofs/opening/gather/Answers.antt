use Rattle.std.proofs.Common.{◌≡◌, ℕ, ◌<◌, ◌≤◌, List, [], length, get_or, sym, ap₂, ◌∙◌, subst, arith}
use Rattle.std.proofs.lemmas.List.{take_all}
use Rattle.std.proofs.lemmas.Result.{err_from_is_err_and}
use Rattle.terms.specs.Terms.{Rule}
use Rattle.grammar.specs.Singles.{rule}
use Rattle.grammar.specs.Encodings.{rule_bytes}
use Rattle.slips.specs.Opening.{rule_or_none}
use Rattle.branches.specs.Copies.{clause_of}
use Rattle.machine.specs.Openings.{AllCopied, Gathered}
use Rattle.grammar.proofs.Fitting.{FitText, fit_text, fit_at}
use Rattle.bindings.specs.Texts.{Holds}
use Rattle.branches.proofs.Copies.{fit_rule}
use Rattle.machine.proofs.Openings.{copied_none, count_so_far, too_many, rule_holds, copied_more}
use Rattle.machine.proofs.opening.gather.Goals as goal

-- the same bytes, held at the same place
holds_at_begin : {bs bs' : List ℕ} {n m : ℕ} (text : List ℕ) → n ≡ m → bs ≡ bs' → Holds text m bs → Holds text n bs'
holds_at_begin {bs} {bs'} {n} {m} text e f h = subst (λ (k : ℕ). Holds text k bs') (sym e) (subst (Holds text m) f h)

pub loop-rule-init : goal.loop-rule-init
loop-rule-init g c =
    let size : length c.args.text.now.bytes ≤ 16384 = omega (arith, c.len-begin.ensures.value, c.len-begin.ensures.fits) in
    (subst (AllCopied c.args.text.now [] c.args.text.now) (sym c.new-clauses.ensures) (copied_none c.args.text.now size), c.len-begin.ensures.value)

pub copy_rule-requires : goal.copy_rule-requires
copy_rule-requires g c = omega (arith, c.count-rule-end.ensures, c.loop-rule-test.true)

pub returns-in_err-copy_rule : goal.returns-in_err-copy_rule
returns-in_err-copy_rule g c =
    let ts = g.S.Store.rules c.args.store.now in
    let i = c.loop-rule.rule in
    let there : i < length ts = omega (arith, c.count-rule-end.ensures, c.loop-rule-test.true) in
    let p = err_from_is_err_and c.from_residual.result c.from_residual.ensures.1 in
    let e = c.in_err-copy_rule.ensures in
    subst (Gathered c.args.text.now ts c.copy_rule.new.self) (sym p.1)
    (p.2 ∙ e.0, too_many c.args.text.now ts i there c.loop-rule.text c.loop-rule.clauses.items c.loop-rule.invariant.0 e.1)

pub clause-requires : goal.clause-requires
clause-requires g c =
    let ts = g.S.Store.rules c.args.store.now in
    let i = c.loop-rule.rule in
    let there : i < length ts = omega (arith, c.count-rule-end.ensures, c.loop-rule-test.true) in
    let f : FitText (get_or ts i []) = fit_text (get_or ts i []) (fit_at ts i (g.S.Store.fit c.args.store.now) there) in
    let one = c.in_ok-copy_rule.ensures in (
      f.r,
      f.within,
      holds_at_begin _ c.loop-rule.invariant.1 f.bytes
          (rule_holds c.args.text.now ts i there c.loop-rule.text c.loop-rule.clauses.items c.loop-rule.invariant.0 c.copy_rule.new.self one),
    )

pub push-requires : goal.push-requires
push-requires g c =
    let ts = g.S.Store.rules c.args.store.now in
    let i = c.loop-rule.rule in
    let there : i < length ts = omega (arith, c.count-rule-end.ensures, c.loop-rule-test.true) in
    omega (arith, count_so_far c.args.text.now ts i there c.loop-rule.text c.loop-rule.clauses.items c.loop-rule.invariant.0, there, c.requires)

pub loop-rule-preserved : goal.loop-rule-preserved
loop-rule-preserved g c =
    let ts = g.S.Store.rules c.args.store.now in
    let i = c.loop-rule.rule in
    let there : i < length ts = omega (arith, c.count-rule-end.ensures, c.loop-rule-test.true) in
    let f : FitText (get_or ts i []) = fit_text (get_or ts i []) (fit_at ts i (g.S.Store.fit c.args.store.now) there) in
    let one = c.in_ok-copy_rule.ensures in
    let holds : Holds c.copy_rule.new.self.bytes c.loop-rule.begin (rule_bytes f.r) =
    holds_at_begin _ c.loop-rule.invariant.1 f.bytes
    (rule_holds c.args.text.now ts i there c.loop-rule.text c.loop-rule.clauses.items c.loop-rule.invariant.0 c.copy_rule.new.self one) in
    let is : c.clause.result ≡ clause_of (length c.loop-rule.text.bytes) (rule_or_none (rule (get_or ts i []))) =
    c.clause.ensures f.r f.within holds
    ∙ ap₂ (λ (n : ℕ) (r : Rule). clause_of n r) c.loop-rule.invariant.1 (sym (fit_rule (get_or ts i []) f)) in
    rw c.push.ensures.items (
      copied_more c.args.text.now ts i there c.loop-rule.text c.loop-rule.clauses.items c.loop-rule.invariant.0 c.copy_rule.new.self one c.clause.result is,
      c.len-begin-in-loop-rule.ensures.value,
    )

pub returns : goal.returns
returns g c =
    let ts = g.S.Store.rules c.args.store.now in
    subst (λ (us : List (List ℕ)). AllCopied c.args.text.now us c.loop-rule.text c.loop-rule.clauses.items)
    (take_all c.loop-rule.rule ts (omega (arith, c.count-rule-end.ensures, c.loop-rule-test.false, c.requires))) c.loop-rule.invariant.0
