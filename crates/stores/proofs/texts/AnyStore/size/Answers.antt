use Rattle.std.proofs.Common.{◌<◌, length, rules, arith}
use Rattle.stores.proofs.Shelved.{text_short}
use Rattle.stores.proofs.texts.AnyStore.size.Goals as goal

pub overflow_cast-result : goal.overflow_cast-result
overflow_cast-result g c =
    let s = text_short (g.T.Texts.rules c.args.self.now) c.args.rule c.in_ok-text.text.now (g.T.Texts.fit c.args.self.now) c.in_ok-text.ensures in
    let low : length c.in_ok-text.text.now < 65536 = omega arith in
    search rules
