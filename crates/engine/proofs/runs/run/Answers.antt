use Rattle.reading.proofs.Parts.{known}
use Rattle.engine.proofs.Promises.{laws_hold}
use Rattle.engine.proofs.runs.run.Goals as goal

pub returns : goal.returns
returns g c =
    let store = c.args.store.now in
    let query = c.args.query.now in
    let played = c.play-opening.ensures in
    record {
      opening_is = played.opening;
      calls_are = played.calls;
      slots_keep = played.keeps;
      check_is = c.check-check.ensures.value;
      laws = λ o e. laws_hold (g.S.Store.rules store) query o (g.S.Store.fit store) (known query c.type_inv.query) e;
    }
