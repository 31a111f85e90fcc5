use Rattle.std.proofs.Common.{rules}
use Rattle.bindings.proofs.Texts.{inside}
use Rattle.machine.proofs.text.Text.rest.Goals as goal

pub overflow_cast-result : goal.overflow_cast-result
overflow_cast-result c =
    let i = inside _ _ _ _ c.requires.2 in
    let n = c.self.invariant in
    search rules
