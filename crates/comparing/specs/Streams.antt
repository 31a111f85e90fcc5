-- Terms as the commands that they are written with, the first taken off at a time. Assumes nothing.
use Rattle.std.specs.Prelude.{ℕ, ◌+◌, ◌*◌, cond, List, [], ◌∷◌, Some, None, Option, ◌==◌}
use Rattle.terms.specs.Terms.{Term, var, atom, pair}
use Rattle.grammar.specs.declared.commands.Command.{Command}
use Rattle.grammar.specs.declared.commands.Command.TheVariants.{Atom, Var, Pair}
use Rattle.stores.specs.Answers.{byte_at}

-- the first command of the terms; none where there is no term
abbrev pub first_of : List Term → Option Command
first_of [] = None
first_of (var x ∷ ts) = Some (Var x)
first_of (atom a ∷ ts) = Some (Atom a)
first_of (pair s t ∷ ts) = Some Pair

-- the terms that are left when it is taken: of a pair, its two parts
abbrev pub after_first : List Term → List Term
after_first [] = []
after_first (var x ∷ ts) = ts
after_first (atom a ∷ ts) = ts
after_first (pair s t ∷ ts) = s ∷ t ∷ ts

-- how many terms are due after a command, where n were due behind it
abbrev pub due_after : ℕ → Command → ℕ
due_after n (Atom a) = n
due_after n (Var x) = n
due_after n Pair = n + 2

abbrev pub byte_then : Option ℕ → (ℕ → Option Command) → Option Command
byte_then None more = None
byte_then (Some b) more = more b

-- the command at p of a text, byte by byte; none at its end
abbrev pub text_first : List ℕ → ℕ → Option Command
text_first t p =
    byte_then (byte_at p t) (λ b.
    cond (b == 0x03) (Some Pair)
    (cond (b == 0x02) (byte_then (byte_at (p + 1) t) (λ x. Some (Var x)))
    (byte_then (byte_at (p + 1) t) (λ h. byte_then (byte_at (p + 2) t) (λ l. Some (Atom (h * 256 + l)))))))
