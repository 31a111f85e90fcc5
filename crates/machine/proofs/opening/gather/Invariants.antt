use Rattle.std.proofs.Common.{◌≡◌, take, length}
use Rattle.machine.specs.Openings.{AllCopied}
use Rattle.machine.proofs.opening.gather.Given as goal

abbrev pub invariant-loop-rule : goal.invariant-loop-rule
invariant-loop-rule g l =
    AllCopied l.initial.text (take l.rule (g.S.Store.rules l.store)) l.text l.clauses.items × (l.begin ≡ length l.text.bytes)
