use Rattle.std.proofs.Common.{[], get_or}
use Rattle.stores.specs.Answers.{bytes_from}
use Rattle.machine.proofs.Openings.{Laying}
use Rattle.machine.proofs.text.Text.copy_rule.Given as goal

abbrev pub invariant-loop-byte : goal.invariant-loop-byte
invariant-loop-byte g l =
    let it = l.byte-iterator in
    Laying l.initial.self-inside.bytes.items (get_or (g.S.Store.rules l.store) l.rule []) l.yielded (bytes_from (g.S.Store.rules it.store.now) it.rule it.at) l.self-inside.bytes.items
