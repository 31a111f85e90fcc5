use Rattle.std.proofs.Common.{◌≡◌, ◌+◌, ◌*◌, ◌≤◌, take}
use Rattle.books.specs.Writing.{book_size}
use Rattle.stores.proofs.writing.book_length.Given as goal

abbrev pub invariant-loop-rule : goal.invariant-loop-rule
invariant-loop-rule g l = (l.length ≡ book_size (take l.rule (g.S.Store.rules l.store))) × (l.length ≤ 2 + 65535 * l.rule)
