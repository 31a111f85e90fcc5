use Rattle.std.proofs.Common.{◌≡◌, Some, sym, refl, ◌∙◌, subst}
use Rattle.std.specs.Option.{IsSome}
use Rattle.comparing.specs.Texts.{text_of}
use Rattle.comparing.specs.Streams.{text_first}
use Rattle.comparing.proofs.Cursors.{due_there, took_inside, stands_there, took_text, enters}
use Rattle.checker.specs.Texts.{sources}
use Rattle.checker.proofs.cursors.Under.next.Given as given
use Rattle.checker.proofs.cursors.Under.next.Goals as goal
use Rattle.checker.proofs.cursors.Under.next.Goals.{After-command_size, In-Var}

pub returns-in-Some-clause-took : goal.returns-in-Some-clause-took
returns-in-Some-clause-took g c = λ pending m. let r = c.inside-command.result in took_inside c.in-Some.is m r.0 r.1 c.inside-command.ensures.went

pub unwrap-command-requires : goal.unwrap-command-requires
unwrap-command-requires g c =
    let m = c.requires in
    let k = stands_there c.in_default.is m.2 m.0 m.1 refl in
    subst IsSome (sym (c.command.ensures ∙ k.1)) refl

-- the command that stands in the text
stands : (g : given.Over) (c : After-command_size g) → Some c.unwrap-command.result ≡ text_first (text_of (sources g.S.Store.rules c.args.self.now.texts.now) c.args.cursor.now.source) c.args.cursor.now.place
stands g c = sym c.unwrap-command.ensures ∙ c.command.ensures

pub returns-in_default-command-clause-took : goal.returns-in_default-command-clause-took
returns-in_default-command-clause-took g c = λ pending m.
    let read = stands g (goal.at.returns-in_default-command-clause-took g c).After-command_size in
    took_text c.in_default.is m c.unwrap-command.result read c.command_size.result c.command_size.ensures c.in_default-command.not-Var

pub bounds-self-cursor : goal.bounds-self-cursor
bounds-self-cursor g c =
    let read = stands g (goal.at.bounds-self-cursor g c).After-command_size in
    (enters c.in_default.is c.requires.2 c.unwrap-command.result read c.command_size.result c.command_size.ensures c.in-Var.number c.in-Var.is).low

pub inside-command-requires-2 : goal.inside-command-requires-2
inside-command-requires-2 g c =
    let read = stands g (goal.at.inside-command-requires-2 g c).After-command_size in
    due_there refl (enters c.in_default.is c.requires.2 c.unwrap-command.result read c.command_size.result c.command_size.ensures c.in-Var.number c.in-Var.is).into

pub returns-clause-took : goal.returns-clause-took
returns-clause-took g c = λ pending m.
    let r = c.inside-command-2.result in
    let read = stands g (goal.at.returns-clause-took g c).After-command_size in
    took_inside refl (enters c.in_default.is m c.unwrap-command.result read c.command_size.result c.command_size.ensures c.in-Var.number c.in-Var.is).into r.0 r.1 c.inside-command-2.ensures.went
