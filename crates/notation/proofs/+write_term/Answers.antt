use Rattle.std.proofs.Common.{codes, refl, ap, ◌∙◌, arith}
use Rattle.std.specs.Fmt.{decimal}
use Rattle.grammar.specs.declared.commands.Command.TheVariants.{Atom, Var, Pair}
use Rattle.notation.specs.Notation.{variable, last}
use Rattle.notation.specs.Commands.{term_text}
use Rattle.notation.specs.Writing.{ahead}
use Rattle.notation.proofs.Writing.{rest_written, ends, last_is}
use Rattle.notation.proofs.+write_term.Goals as goal

pub returns-in-Atom-clause-writes : goal.returns-in-Atom-clause-writes
returns-in-Atom-clause-writes g t c ok = record {
  front = decimal c.in-Atom.number;
  wrote = λ k. c.write.ensures.writes k ok;
  same = λ d. ap (λ x. term_text x (ahead c.args.reader.now) d) c.in-Atom.is;
}

pub returns-in-Var-clause-writes : goal.returns-in-Var-clause-writes
returns-in-Var-clause-writes g t c ok = record {
  front = variable c.in-Var.number;
  wrote = λ k. c.write-in-Var.ensures.writes k ok;
  same = λ d. ap (λ x. term_text x (ahead c.args.reader.now) d) c.in-Var.is;
}

pub parts-preserved : goal.parts-preserved
parts-preserved g t c = record {
  wrote =
      rest_written (ahead c.write_term.new.reader) c.parts.invariant.wrote c.in-Some.ensures.takes (c.in_ok-write_term.ensures.writes refl)
      Pair (codes " ") c.in-Some-Pair.ensures.takes c.in-Some-Pair.field-0-is (λ k. c.in_ok-write_str-in-Some-Pair.ensures.writes k refl) refl;
  onward = omega (arith, c.parts.invariant.onward, c.in-Some.ensures.fewer, c.in_ok-write_term.ensures.onward, c.in-Some-Pair.ensures.fewer);
}

pub returns-in-Some-Atom-eq0-clause-writes : goal.returns-in-Some-Atom-eq0-clause-writes
returns-in-Some-Atom-eq0-clause-writes g t c ok =
    let h = c.in-Some-Atom-eq0 in
    rest_written (ahead c.write_term.new.reader) c.parts.invariant.wrote c.in-Some.ensures.takes (c.in_ok-write_term.ensures.writes refl)
    (Atom 0) (codes ")") h.ensures.takes (h.field-0-is ∙ ap Atom h.field-0-0-test) (λ k. c.write_str-in-Some-Atom-eq0.ensures.writes k ok) refl

pub returns-in-Some-Atom-clause-writes : goal.returns-in-Some-Atom-clause-writes
returns-in-Some-Atom-clause-writes g t c ok =
    let h = c.in-Some-Atom in
    rest_written (ahead c.write_term.new.reader) c.parts.invariant.wrote c.in-Some.ensures.takes (c.in_ok-write_term.ensures.writes refl)
    (Atom h.number) (last (decimal h.number)) h.ensures.takes h.field-0-is (λ k. c.write-in-Some-Atom.ensures.writes k ok) (last_is h.number (λ e. c.in-Some-Atom.number-test.1 e))

pub returns-in-Some-Var-clause-writes : goal.returns-in-Some-Var-clause-writes
returns-in-Some-Var-clause-writes g t c ok =
    let h = c.in-Some-Var in
    rest_written (ahead c.write_term.new.reader) c.parts.invariant.wrote c.in-Some.ensures.takes (c.in_ok-write_term.ensures.writes refl)
    (Var h.number) (last (variable h.number)) h.ensures.takes h.field-0-is (λ k. c.write-in-Some-Var.ensures.writes k ok) refl

pub returns-in-None-clause-writes : goal.returns-in-None-clause-writes
returns-in-None-clause-writes g t c ok =
    ends (ahead c.write_term.new.reader) c.parts.invariant.wrote c.in-Some.ensures.takes (c.in_ok-write_term.ensures.writes refl)
    c.in-None.ensures.takes.0 c.in-None.ensures.takes.1
