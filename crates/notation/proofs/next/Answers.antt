use Rattle.std.proofs.Common.{◌≡◌, subst, sym, rules}
use Rattle.notation.specs.Writing.{ahead, Takes}
use Rattle.notation.proofs.Taking.{known, takes}
use Rattle.notation.proofs.next.Goals as goal

pub returns-clause-takes : goal.returns-clause-takes
returns-clause-takes c =
    let h = c.command.ensures in
    let same : c.flatten.result ≡ known c.command.result = search rules in
    subst (λ o. Takes (ahead c.args.reader.now) o (ahead c.command.new.self)) (sym same)
    (takes c.args.reader.now.place c.command.new.self.place c.args.reader.now.bytes.now c.command.new.self.bytes.now c.command.result h.value h.bytes h.place)
