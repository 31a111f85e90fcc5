use Rattle.std.proofs.Common.{◌≡◌, ℕ, ◌+◌, ◌-◌, ◌<◌, ◌≤◌, length, drop, Some, None, Ok, Err, Option, sym, refl, ap, ◌∙◌, subst, ap₂, arith, length-drop}
use Rattle.std.specs.Option.{ok_or}
use Rattle.std.proofs.lemmas.Result.{err_from_is_err_and}
use Rattle.terms.specs.declared.Form.TheVariants.{Slips}
use Rattle.grammar.specs.declared.commands.Command.{Command}
use Rattle.grammar.specs.declared.faults.RuleFault.{RuleFault}
use Rattle.grammar.specs.Encodings.{AllBytes}
use Rattle.grammar.specs.TermCommands.{commands, terms}
use Rattle.grammar.proofs.Encoded.{bytes_drop}
use Rattle.reading.specs.Taking.{left}
use Rattle.reading.proofs.Parts.{known}
use Rattle.reading.proofs.Passing.{Sofar, then_due}
use Rattle.slips.specs.Checker.{unknowns}
use Rattle.comparing.specs.Streams.{due_after}
use Rattle.comparing.proofs.Terms.{ends_at, fails_with, one_command, missing, unfit_here}
use Rattle.checker.proofs.places.skip_term.Goals as goal
use Rattle.checker.proofs.places.skip_term.Goals.{In_ok-command, After-from_place-reader}

-- the bytes of the slip are bytes
bytes : (c : After-from_place-reader) → AllBytes c.from_place-reader.result.bytes.now
bytes c = subst AllBytes (sym c.from_place-reader.ensures.bytes) (bytes_drop c.args.place c.args.slip.now (known c.args.slip.now c.type_inv.slip))

-- what is read of the reader's bytes is read of the slip
from_slip : (c : After-from_place-reader) → left (terms unknowns 1 (commands Slips c.args.place (drop c.args.place c.args.slip.now))) ≡ left (terms unknowns 1 (commands Slips c.from_place-reader.result.place c.from_place-reader.result.bytes.now))
from_slip c = sym (ap₂ (λ p bs. left (terms unknowns 1 (commands Slips p bs))) c.from_place-reader.ensures.place c.from_place-reader.ensures.bytes)

pub returns-in_err-next : goal.returns-in_err-next
returns-in_err-next c =
    let d = (goal.at.returns-in_err-next c).After-from_place-reader in
    let p = err_from_is_err_and c.from_residual.result c.from_residual.ensures.1 in
    p.1 ∙ ap Err p.2
    ∙ fails_with c.args.slip.now 1 c.args.place _ (from_slip d ∙ unfit_here (bytes d) c.loop-due.invariant c.loop-due-test.true _ c.in_err-next.ensures.value)

-- the fault where no command was there
fault_is : (o : Option Command) (x e : RuleFault) → Err x ≡ ok_or o e → o ≡ None → x ≡ e
fault_is None x e h n = cc
fault_is (Some k) x e h n = cc

pub returns-in_err-command : goal.returns-in_err-command
returns-in_err-command c =
    let d = (goal.at.returns-in_err-command c).After-from_place-reader in
    let p = err_from_is_err_and c.from_residual-in_err-command.result c.from_residual-in_err-command.ensures.1 in
    let none = c.in_err-command.ensures.ok_part in
    let fault = fault_is c.in_ok-next.next c.in_err-command.field-0.0 (RuleFault.TermMissing c.place-place.result) c.in_err-command.ensures.value none in
    p.1 ∙ ap Err (p.2 ∙ fault) ∙ ap (λ n. Err (RuleFault.TermMissing n)) c.place-place.ensures
    ∙ fails_with c.args.slip.now 1 c.args.place _ (from_slip d ∙ missing (bytes d) c.loop-due.invariant c.loop-due-test.true (ap Ok (sym none) ∙ c.in_ok-next.ensures.value))

-- the command that was taken
turn : (c : In_ok-command) (m : ℕ) → m ≡ then_due (c.loop-due.due - 1) c.in_ok-command.command
    → Sofar Slips unknowns 1 c.from_place-reader.result.place c.from_place-reader.result.bytes.now m c.command.new.self.place c.command.new.self.bytes.now
    × (length c.command.new.self.bytes.now < length c.loop-due.reader.bytes.now)
turn c m e =
    let d = (goal.at.In_ok-command c).After-from_place-reader in
    let h = c.in_ok-next.ensures in
    one_command (bytes d) c.loop-due.invariant c.loop-due-test.true _ c.in_ok-command.command m _ _ c.in_ok-command.ensures.ok_part h.value h.bytes h.place e

then_is : (n : ℕ) (k : Command) → due_after n k ≡ then_due n k
then_is n (Command.Atom a) = refl
then_is n (Command.Var x) = refl
then_is n Command.Pair = omega arith

pub due_after-due-requires : goal.due_after-due-requires
due_after-due-requires c =
    let low : c.loop-due.due ≤ 1 + length c.args.slip.now = omega (arith, c.loop-due.invariant.room, ap length c.from_place-reader.ensures.bytes, length-drop c.args.place c.args.slip.now) in
    record { some = c.loop-due-test.true; room = omega (arith, low) }

pub loop-due-smaller : goal.loop-due-smaller
loop-due-smaller c = (turn (goal.at.loop-due-smaller c).In_ok-command c.due_after-due.result (c.due_after-due.ensures ∙ then_is (c.loop-due.due - 1) c.in_ok-command.command)).1

pub loop-due-preserved : goal.loop-due-preserved
loop-due-preserved c = (turn (goal.at.loop-due-preserved c).In_ok-command c.due_after-due.result (c.due_after-due.ensures ∙ then_is (c.loop-due.due - 1) c.in_ok-command.command)).0

pub returns : goal.returns
returns c =
    let d = (goal.at.returns c).After-from_place-reader in
    let none : c.loop-due.due ≡ 0 = omega (arith, c.loop-due-test.false) in
    ap Ok c.place.ensures
    ∙ ends_at c.args.slip.now 1 c.args.place _ c.loop-due.reader.bytes.now
    (from_slip d ∙ sym c.loop-due.invariant.same ∙ ap (λ n. left (terms unknowns n (commands Slips c.loop-due.reader.place c.loop-due.reader.bytes.now))) none)
