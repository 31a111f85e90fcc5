use Rattle.std.proofs.Common.{◌≤◌, length}
use Rattle.notation.specs.Commands.{term, rest, text, term_text}
use Rattle.notation.specs.Writing.{ahead, Writes}
use Rattle.notation.proofs.+write_term.Given as goal

abbrev pub decreases-write_term : goal.decreases-write_term
decreases-write_term g l = length l.reader.now.bytes.now

abbrev pub invariant-parts : goal.invariant-parts
invariant-parts g l = record {
  wrote : Writes g.W.Write.write_str_gives l.fn.f l.f (term_text l.fn.first (ahead l.fn.reader)) (λ d. text (term (rest d)) (ahead l.reader));
  onward : length l.reader.bytes.now ≤ length l.fn.reader.bytes.now;
}

abbrev pub decreases-parts : goal.decreases-parts
decreases-parts g l = length l.reader.bytes.now
