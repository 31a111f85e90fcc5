use Rattle.std.proofs.Common.{◌≡◌, suc, ◌+◌, ◌-◌, Some, refl, ap, ◌∙◌, arith}
use Rattle.grammar.specs.declared.commands.Command.{Command}
use Rattle.reading.proofs.Passing.{Took, took, goes_on}
use Rattle.reading.proofs.commands.Reader.terms.Goals as goal
use Rattle.reading.proofs.commands.Reader.terms.Goals.{In_ok-command}

-- the command that was taken
at_command : (c : In_ok-command) (x : Command) → c.in_ok-command.command ≡ x
    → Took c.args.form c.loop-due.self.place c.loop-due.self.bytes.now x c.command.new.self.place c.command.new.self.bytes.now
at_command c x e =
    let h = c.in_ok-next.ensures in
    took _ _ _ _ _ _ _ (c.in_ok-command.ensures.ok_part ∙ ap Some e) h.value h.bytes h.place

pub loop-due-preserved-in-Atom : goal.loop-due-preserved-in-Atom
loop-due-preserved-in-Atom c =
    goes_on c.loop-due.invariant c.loop-due-test.true _ _ _ _ (at_command (goal.at.loop-due-preserved-in-Atom c).In_ok-command _ c.in-Atom.is) tt refl

pub loop-due-preserved-in-Var : goal.loop-due-preserved-in-Var
loop-due-preserved-in-Var c =
    let t = at_command (goal.at.loop-due-preserved-in-Var c).In_ok-command _ c.in-Var.is in
    goes_on c.loop-due.invariant c.loop-due-test.true _ _ _ _ t (omega (arith, c.from.ensures, c.if-number-from.false)) refl

pub loop-due-preserved : goal.loop-due-preserved
loop-due-preserved c =
    let more : c.loop-due.due + 1 ≡ suc (suc (c.loop-due.due - 1)) = omega (arith, c.loop-due-test.true) in
    goes_on c.loop-due.invariant c.loop-due-test.true _ _ _ _ (at_command (goal.at.loop-due-preserved c).In_ok-command _ c.in-Pair.is) tt more
