use Rattle.std.proofs.Common.{eqb, Some, ap, ◌∙◌}
use Rattle.std.specs.Option.{option_eq}
use Rattle.comparing.proofs.Rules.{has_byte}
use Rattle.checker.proofs.texts.Texts.has_rule.Goals as goal

pub returns : goal.returns
returns g c =
    let store = c.args.self.now.store.now in
    c.eq.ensures
    ∙ ap (λ o. option_eq eqb o (Some c.args.variables)) c.byte.ensures
    ∙ has_byte (g.S.Store.rules store) (g.S.Store.fit store) c.args.rule c.args.variables
