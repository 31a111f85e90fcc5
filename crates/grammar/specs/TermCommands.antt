-- The commands of terms, and the terms that they make. Assumes nothing.
use Rattle.std.specs.Prelude.{ℕ, zero, suc, ◌+◌, ◌*◌, cond, List, [], ◌∷◌, Ok, Err, Result, ◌==◌, nat_lt}
use Rattle.terms.specs.declared.Form.{Form}
use Rattle.terms.specs.declared.Form.TheVariants.{Rules, Slips}
use Rattle.terms.specs.Terms.{Term, var, atom, pair}
use Rattle.grammar.specs.declared.commands.Command.{Command}
use Rattle.grammar.specs.declared.commands.Command.TheVariants.{Atom, Var, Pair}
use Rattle.grammar.specs.declared.faults.CommandFault.{CommandFault}
use Rattle.grammar.specs.declared.faults.CommandFault.TheVariants.{Operands, NoTerm}
use Rattle.grammar.specs.declared.faults.RuleFault.{RuleFault}
use Rattle.grammar.specs.declared.faults.RuleFault.TheVariants.{Command as InCommand, TermMissing, Undeclared}
use Rattle.grammar.specs.Refusals.{command_place}
use Rattle.grammar.specs.Asking.{ask}

-- ── one command ──

-- the first byte of a variable
abbrev pub var_byte : Form → ℕ
var_byte Rules = 0x02
var_byte Slips = 0x04

-- a number of one byte, of the command at p with these operands
abbrev pub byte_operand : ℕ → (ℕ → Command) → List ℕ → Result Command CommandFault
byte_operand p make [] = Err (Operands p)
byte_operand p make (x ∷ xs) = Ok (make x)

-- a number of two bytes, the high one first
abbrev pub two_operand : ℕ → (ℕ → Command) → List ℕ → Result Command CommandFault
two_operand p make [] = Err (Operands p)
two_operand p make (h ∷ []) = Err (Operands p)
two_operand p make (h ∷ l ∷ xs) = Ok (make (h * 256 + l))

abbrev pub var_operand : Form → ℕ → List ℕ → Result Command CommandFault
var_operand Rules p xs = byte_operand p Var xs
var_operand Slips p xs = two_operand p Var xs

-- the command at p whose first byte is b, the bytes xs of the frame after it: does b begin a term, and
-- do its operands lie inside the frame?
abbrev pub command : Form → ℕ → ℕ → List ℕ → Result Command CommandFault
command f p b xs =
    cond (b == 0x01) (two_operand p Atom xs)
    (cond (b == 0x03) (Ok Pair)
    (cond (b == var_byte f) (var_operand f p xs)
    (Err (NoTerm p))))

-- how many operand bytes a command has
abbrev pub operands : Form → Command → ℕ
operands f (Atom a) = 2
operands f Pair = 0
operands Rules (Var x) = 1
operands Slips (Var x) = 2

-- ── the commands of a frame ──

-- one command after the other, each with its place, up to the frame's end or the first that is unfit
pub data Commands : Type 0 where
  end : ℕ → Commands
  unfit : CommandFault → Commands
  next : ℕ → Command → Commands → Commands

-- the place of the first command, or of the end
abbrev pub place_of : Commands → ℕ
place_of (end p) = p
place_of (unfit e) = command_place e
place_of (next p c cs) = p

abbrev pub taken : ℕ → Result Command CommandFault → (Command → Commands) → Commands
taken p (Err e) more = unfit e
taken p (Ok c) more = next p c (more c)

-- the commands of the bytes from the place p on, of which the first k are operands of the command before
abbrev pub commands_past : Form → ℕ → ℕ → List ℕ → Commands
commands_past f (suc k) p [] = end p
commands_past f (suc k) p (b ∷ bs) = commands_past f k (p + 1) bs
commands_past f zero p [] = end p
commands_past f zero p (b ∷ bs) = taken p (command f p b bs) (λ c. commands_past f (operands f c) (p + 1) bs)

abbrev pub commands : Form → ℕ → List ℕ → Commands
commands f p bs = commands_past f 0 p bs

-- ── terms ──

-- a term more in front of those that follow
abbrev pub with_term : Term → Result (List Term × Commands) RuleFault → Result (List Term × Commands) RuleFault
with_term t (Ok (ts, left)) = Ok (t ∷ ts, left)
with_term t (Err e) = Err e

-- the first two terms are the parts of a pair
abbrev pub joined_first : List Term → List Term
joined_first [] = []
joined_first (s ∷ []) = s ∷ []
joined_first (s ∷ t ∷ ts) = pair s t ∷ ts

abbrev pub with_pair : Result (List Term × Commands) RuleFault → Result (List Term × Commands) RuleFault
with_pair (Ok (ts, left)) = Ok (joined_first ts, left)
with_pair (Err e) = Err e

-- as many terms as are due, over v variables, and the commands that are left
abbrev pub terms : ℕ → ℕ → Commands → Result (List Term × Commands) RuleFault
terms v zero cs = Ok ([], cs)
terms v (suc due) (end p) = Err (TermMissing p)
terms v (suc due) (unfit e) = Err (InCommand e)
terms v (suc due) (next p (Atom a) cs) = with_term (atom a) (terms v due cs)
terms v (suc due) (next p (Var x) cs) = ask (nat_lt x v) (Undeclared p) (with_term (var x) (terms v due cs))
terms v (suc due) (next p Pair cs) = with_pair (terms v (suc (suc due)) cs)
