use Rattle.std.proofs.Common.{length}
use Rattle.notation.specs.Commands.{others, text, all_text}
use Rattle.notation.specs.Writing.{ahead, Writes}
use Rattle.notation.proofs.TermsDisplay.fmt.Given as goal

abbrev pub invariant-others : goal.invariant-others
invariant-others g l =
    Writes g.W.Write.write_str_gives l.fn.f l.f (λ d. all_text l.fn.self.0.now) (λ d. text others (ahead l.reader))

abbrev pub decreases-others : goal.decreases-others
decreases-others g l = length l.reader.bytes.now
