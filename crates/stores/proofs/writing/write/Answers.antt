use Rattle.std.proofs.Common.{arith}
use Rattle.std.proofs.lemmas.Result.{err_from_is_err_and}
use Rattle.stores.proofs.Copied.{few_rules, no_room, wrote, not_sized}
use Rattle.stores.proofs.writing.write.Goals as goal

pub returns-in_err-length : goal.returns-in_err-length
returns-in_err-length g c =
    let p = err_from_is_err_and c.from_residual.result c.from_residual.ensures.1 in
    let k = not_sized (g.S.Store.rules c.args.store.now) c.args.out.now c.from_residual.result _ _ p.1 p.2 c.in_err-length.ensures in
    record { value = k.0; after = k.1 }

pub returns-then-length-out : goal.returns-then-length-out
returns-then-length-out g c =
    let k = no_room (g.S.Store.rules c.args.store.now) c.args.out.now c.in_ok-length.length c.in_ok-length.ensures c.if-length-out.true in
    record { value = k.0; after = k.1 }

pub copy_rules-requires : goal.copy_rules-requires
copy_rules-requires g c =
    let k = few_rules (g.S.Store.rules c.args.store.now) c.in_ok-length.length c.in_ok-length.ensures in
    record { few = k.0; room = omega (arith, k.1, c.if-length-out.false) }

pub returns : goal.returns
returns g c =
    let k = wrote (g.S.Store.rules c.args.store.now) c.args.out.now c.in_ok-length.length c.copy_rules.new.out c.in_ok-length.ensures c.if-length-out.false c.copy_rules.ensures in
    record { value = k.0; after = k.1 }
