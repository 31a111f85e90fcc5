use Rattle.std.proofs.Common.{sym, ap, ◌∙◌}
use Rattle.std.specs.Option.{is_some}
use Rattle.comparing.proofs.Stages.{due_more, text_more}
use Rattle.checker.proofs.texts.Texts.more.Goals as goal

pub returns-then-is_some : goal.returns-then-is_some
returns-then-is_some g c = λ table pending m. c.if-is_some.true ∙ due_more c.args.cursor.now.inside (sym c.is_some.ensures ∙ c.if-is_some.true) m

pub returns-else-is_some : goal.returns-else-is_some
returns-else-is_some g c = λ table pending m.
    c.is_some-else-is_some.ensures ∙ ap is_some c.byte.ensures ∙ text_more c.args.cursor.now.inside (sym c.is_some.ensures ∙ c.if-is_some.false) m
