use Rattle.std.proofs.Common.{◌+◌, ◌<◌, arith, rules}
use Rattle.comparing.specs.Texts.{text_of}
use Rattle.comparing.proofs.Fronts.{byte_inside}
use Rattle.comparing.proofs.Rules.{text_short}
use Rattle.checker.specs.Texts.{sources}
use Rattle.checker.proofs.texts.Texts.command.Given as given
use Rattle.checker.proofs.texts.Texts.command.Goals as goal
use Rattle.checker.proofs.texts.Texts.command.Goals.{In_ok-byte}

-- a byte of a text stands before its 517th place
here : (g : given.Over) (c : In_ok-byte g) → c.args.at < 517
here g c =
    let s = sources g.S.Store.rules c.args.self.now in
    let inside = byte_inside (text_of s c.args.source) c.args.at c.in_ok-byte.field-0 c.in_ok-byte.ensures in
    let short = text_short s (g.S.Store.fit c.args.self.now.store.now) c.args.source c.args.self.now.short in
    omega arith

pub overflow_add-at : goal.overflow_add-at
overflow_add-at g c =
    let low = here g (goal.at.overflow_add-at g c).In_ok-byte in
    let fits : c.args.at + 1 < 65536 = omega arith in
    search rules

pub overflow_add-at-in_default : goal.overflow_add-at-in_default
overflow_add-at-in_default g c =
    let low = here g (goal.at.overflow_add-at-in_default g c).In_ok-byte in
    let fits : c.args.at + 1 < 65536 = omega arith in
    search rules

pub overflow_add-at-in_default-2 : goal.overflow_add-at-in_default-2
overflow_add-at-in_default-2 g c =
    let low = here g (goal.at.overflow_add-at-in_default-2 g c).In_ok-byte in
    let fits : c.args.at + 2 < 65536 = omega arith in
    search rules
