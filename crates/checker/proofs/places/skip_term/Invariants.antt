use Rattle.std.proofs.Common.{length}
use Rattle.terms.specs.declared.Form.TheVariants.{Slips}
use Rattle.reading.proofs.Passing.{Sofar}
use Rattle.slips.specs.Checker.{unknowns}
use Rattle.checker.proofs.places.skip_term.Given as goal

abbrev pub invariant-loop-due : goal.invariant-loop-due
invariant-loop-due l = Sofar Slips unknowns 1 l.initial.reader.place l.initial.reader.bytes.now l.due l.reader.place l.reader.bytes.now

abbrev pub decreases-loop-due : goal.decreases-loop-due
decreases-loop-due l = length l.reader.bytes.now
