use Rattle.std.proofs.Common.{◌≡◌, ◌++◌, take, drop}
use Rattle.books.specs.Writing.{book_of, book_size}
use Rattle.stores.proofs.writing.copy_rules.Given as goal

abbrev pub invariant-loop-rule : goal.invariant-loop-rule
invariant-loop-rule g l =
    (l.place ≡ book_size (take l.rule (g.S.Store.rules l.store)))
    × (l.out ≡ book_of (take l.rule (g.S.Store.rules l.store)) ++ drop l.place l.initial.out)
