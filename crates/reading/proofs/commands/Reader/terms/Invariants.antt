use Rattle.std.proofs.Common.{length}
use Rattle.reading.proofs.Passing.{Sofar}
use Rattle.reading.proofs.commands.Reader.terms.Given as goal

abbrev pub invariant-loop-due : goal.invariant-loop-due
invariant-loop-due l =
    Sofar l.form l.variables l.initial.due l.initial.self.place l.initial.self.bytes.now l.due l.self.place l.self.bytes.now

abbrev pub decreases-loop-due : goal.decreases-loop-due
decreases-loop-due l = length l.self.bytes.now
