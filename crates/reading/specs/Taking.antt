-- What the reader of commands takes. Assumes nothing.
use Rattle.std.specs.Prelude.{◌≡◌, ℕ, ◌+◌, ◌-◌, ◌*◌, ◌≤◌, List, [], ◌∷◌, length, drop, Some, None, Ok, Err, Option, Result}
use Rattle.terms.specs.declared.Form.{Form}
use Rattle.terms.specs.Terms.{Term}
use Rattle.grammar.specs.declared.commands.Command.{Command}
use Rattle.grammar.specs.declared.faults.CommandFault.{CommandFault}
use Rattle.grammar.specs.declared.faults.CommandFault.TheVariants.{Operands}
use Rattle.grammar.specs.declared.faults.RuleFault.{RuleFault}
use Rattle.grammar.specs.declared.faults.RuleFault.TheVariants.{LengthLeft}
use Rattle.grammar.specs.Asking.{go}
use Rattle.grammar.specs.TermCommands.{command, operands, Commands}

-- the operand of the command at p
abbrev pub one_byte : ℕ → List ℕ → Result ℕ CommandFault
one_byte p [] = Err (Operands p)
one_byte p (x ∷ xs) = Ok x

abbrev pub two_bytes : ℕ → List ℕ → Result ℕ CommandFault
two_bytes p [] = Err (Operands p)
two_bytes p (h ∷ []) = Err (Operands p)
two_bytes p (h ∷ l ∷ xs) = Ok (h * 256 + l)

-- the command that the frame's bytes begin with, at p; none where they are at their end
abbrev pub first_command : Form → ℕ → List ℕ → Result (Option Command) CommandFault
first_command f p [] = Ok None
first_command f p (b ∷ bs) = go (command f p b bs) (λ e. e) (λ c. Ok (Some c))

-- how many bytes a command takes
abbrev pub size : Form → Command → ℕ
size f c = 1 + operands f c

-- how many bytes are taken for a result
abbrev pub taken_size : Form → Result (Option Command) CommandFault → ℕ
taken_size f (Ok (Some c)) = size f c
taken_size f (Ok None) = 0
taken_size f (Err e) = 0

-- the commands that terms leave
abbrev pub left : Result (List Term × Commands) RuleFault → Result Commands RuleFault
left (Ok (ts, cs)) = Ok cs
left (Err e) = Err e

-- terms were read that leave the commands from the second place on; or the fault was found
abbrev pub Passed : Result Commands RuleFault → Result Unit RuleFault → Commands → Type 0
Passed s (Ok u) cs = s ≡ Ok cs
Passed s (Err e) cs = s ≡ Err e

-- the reader went from the place p with these bytes to the place q with those
pub record Went (p : ℕ) (bs : List ℕ) (q : ℕ) (cs : List ℕ) : Type 0 where
  pub onward : p ≤ q
  pub within : q ≤ p + length bs
  pub front : cs ≡ drop (q - p) bs

-- the frame is to end at p
abbrev pub over : ℕ → List ℕ → Result Unit RuleFault
over p [] = Ok tt
over p (b ∷ bs) = Err (LengthLeft p)
