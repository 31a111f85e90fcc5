use Rattle.std.proofs.Common.{◌≡◌, ℕ, List, length, Ok, Err, OnOk, ap, ◌∙◌, sym, subst, arith}
use Rattle.std.proofs.lemmas.Result.{err_from_is_err_and}
use Rattle.terms.specs.Terms.{Term}
use Rattle.slips.specs.Checker.{terms_at}
use Rattle.reading.proofs.Parts.{known}
use Rattle.comparing.specs.Cursors.{Listed}
use Rattle.comparing.specs.Places.{where_to, Added}
use Rattle.comparing.proofs.Terms.{one_more_read, fault_read, all_read, all_listed}
use Rattle.checker.proofs.places.read_terms.Goals as goal

pub loop-preserved : goal.loop-preserved
loop-preserved c =
    one_more_read (known c.args.slip.now c.type_inv.slip) c.loop.invariant c.in_ok-next.next c.push.new.self.items c.push.ensures.items c.in_ok-next.ensures

pub returns-in_err-next : goal.returns-in_err-next
returns-in_err-next c =
    let p = err_from_is_err_and c.from_residual.result c.from_residual.ensures.1 in
    let fault = fault_read (known c.args.slip.now c.type_inv.slip) c.loop.invariant c.args.count _ c.loop-test.true c.in_err-next.ensures in
    record {
      value = p.1 ∙ ap Err p.2 ∙ fault;
      listed = λ ts q e. (let other = fault ∙ ap where_to e in let z : ◌≡◌ {A = ℕ} 0 1 = cc in absurd (omega arith));
      added = subst (λ r. OnOk r (Added c.args.table.now.items c.push.new.self.items c.args.count)) (sym p.1) tt;
    }

pub returns : goal.returns
returns c =
    let s = c.loop.invariant in
    let slip = c.args.slip.now in
    let was = c.args.table.now.items in
    let all : c.loop.counter ≡ c.args.count = omega (arith, c.loop.auto.counter-end, c.loop-test.false) in
    record {
      value = subst (λ n. Ok c.loop.next ≡ where_to (terms_at n c.args.place slip)) all (all_read s);
      listed = subst (λ n. (ts : List Term) (q : ℕ) → terms_at n c.args.place slip ≡ Ok (ts, q) → Listed slip c.loop.table.items (length was) ts) all (all_listed s);
      added = subst (Added was c.loop.table.items) all s.added;
    }
