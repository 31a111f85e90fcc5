use Rattle.comparing.proofs.Terms.{ReadSoFar}
use Rattle.checker.proofs.places.read_terms.Given as goal

abbrev pub invariant-loop : goal.invariant-loop
invariant-loop l = ReadSoFar l.slip l.initial.table.items l.table.items l.place l.counter l.next
