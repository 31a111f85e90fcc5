use Rattle.std.proofs.Common.{[], get_or}
use Rattle.stores.specs.Answers.{bytes_from}
use Rattle.stores.proofs.Copied.{Copying}
use Rattle.stores.proofs.writing.copy_rule.Given as goal

abbrev pub invariant-loop-byte : goal.invariant-loop-byte
invariant-loop-byte g l =
    let it = l.byte-iterator in
    Copying l.initial.out (get_or (g.S.Store.rules l.store) l.rule []) l.place l.yielded (bytes_from (g.S.Store.rules it.store.now) it.rule it.at) l.end l.out
