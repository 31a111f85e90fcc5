-- What is taken of the commands, and written of a text. Assumes nothing.
use Rattle.std.specs.Prelude.{◌≡◌, ℕ, List, [], ◌++◌, Some, None, Option}
use Rattle.std.specs.Fmt.{HasWritten, IsPlainFormatter}
use Rattle.std.specs.declared.fmt.Formatter.{Formatter}
use Rattle.terms.specs.declared.Form.TheVariants.{Rules}
use Rattle.grammar.specs.declared.commands.Command.{Command}
use Rattle.grammar.specs.TermCommands.{Commands, next, commands}
use Rattle.reading.specs.declared.commands.Reader.{Reader}
use Rattle.notation.specs.Commands.{Due, text}

-- the commands that a reader still gives
abbrev pub ahead : Reader → Commands
ahead r = commands Rules r.place r.bytes.now

-- nothing more is shown of these commands
pub record Over (cs : Commands) : Type 0 where
  pub none : (d : Due) → text d cs ≡ []

-- a command was taken from the front, and these are left
pub record Took (cs : Commands) (c : Command) (left : Commands) : Type 0 where
  pub place : ℕ
  pub front : cs ≡ next place c left

abbrev pub Takes : Commands → Option Command → Commands → Type 0
Takes cs None left = Over cs × Over left
Takes cs (Some c) left = Took cs c left

-- f became g by writing the front of a text; the back is left, whatever is due after it
pub record Writes {W : Type 0} (took : W → List ℕ → W → Type 0) (f g : Formatter W) (whole back : Due → List ℕ) : Type 0 where
  pub front : List ℕ
  pub wrote : IsPlainFormatter f → HasWritten took f front g
  pub same : (d : Due) → whole d ≡ front ++ back d
