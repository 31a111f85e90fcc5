-- What a slip is checked by, and what is to come at a cursor, of the values of the code. Assumes nothing.
use Rattle.std.specs.Prelude.{ℕ, List}
use Rattle.terms.specs.Terms.{Term}
use Rattle.comparing.specs.declared.Cursor.{Cursor}
use Rattle.comparing.specs.Texts.{Sources, Comes}
use Rattle.checker.specs.declared.texts.Texts.{Texts}
use Rattle.checker.specs.declared.cursors.Under.{Under}

-- the texts and the slip, where the rules that a store means are these
abbrev pub sources : {S : Type 0} → (S → List (List ℕ)) → Texts S → Sources
sources rules t = record { rules = rules t.store.now; body = t.body.now; slip = t.slip.now }

-- these terms are to come at a cursor
abbrev pub ToCome : {S : Type 0} → (S → List (List ℕ)) → Under S → Cursor → List Term → Type 0
ToCome rules u c pending = Comes (sources rules u.texts.now) u.table.now c pending
