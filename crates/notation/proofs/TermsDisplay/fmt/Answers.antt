use Rattle.std.proofs.Common.{refl}
use Rattle.notation.specs.Writing.{ahead}
use Rattle.notation.specs.Commands.{others}
use Rattle.notation.proofs.Writing.{other_written, all_written}
use Rattle.notation.proofs.TermsDisplay.fmt.Goals as goal

pub others-preserved : goal.others-preserved
others-preserved g c =
    other_written (ahead c.write_term-in-Some-next.new.reader) c.others.invariant c.in-Some-next.ensures.takes
    (λ k. c.in_ok-write_str.ensures.writes k refl) (c.in_ok-write_term-2.ensures.writes refl)

pub returns-clause-writes : goal.returns-clause-writes
returns-clause-writes g c plain ok = all_written c.others.invariant (c.in_default-next.ensures.takes.0.none others) plain
