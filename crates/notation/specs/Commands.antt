-- The notation of any commands, as far as they go. Assumes nothing.
use Rattle.std.specs.Prelude.{ℕ, List, [], ◌++◌, codes, ◌==◌, if◌then◌else◌}
use Rattle.std.specs.Fmt.{decimal}
use Rattle.terms.specs.declared.Form.TheVariants.{Rules}
use Rattle.grammar.specs.declared.commands.Command.{Command}
use Rattle.grammar.specs.declared.commands.Command.TheVariants.{Atom, Var, Pair}
use Rattle.grammar.specs.TermCommands.{Commands, end, unfit, next, commands}
use Rattle.reading.specs.Views.{RuleView}
use Rattle.notation.specs.Notation.{variable, last, last_atom}

-- what is still to be shown
pub data Due : Type 0 where
  nothing : Due
  -- other terms, each after a comma
  others : Due
  -- a term, and then this
  term : Due → Due
  -- a pair's rest, and then this
  rest : Due → Due

-- how a command begins a term
abbrev pub begun : Command → List ℕ
begun (Atom a) = decimal a
begun (Var x) = variable x
begun Pair = codes "("

-- how it begins a pair's rest
abbrev pub begun_rest : Command → List ℕ
begun_rest (Atom a) = last_atom a
begun_rest (Var x) = last (variable x)
begun_rest Pair = codes " "

-- what is due after it, in a term or a rest that this follows
abbrev pub then_due : Due → Command → Due
then_due d (Atom a) = d
then_due d (Var x) = d
then_due d Pair = term (rest d)

-- what is shown of the commands
abbrev pub text : Due → Commands → List ℕ
text d (end p) = []
text d (unfit e) = []
text nothing (next p c cs) = []
text others (next p c cs) = codes ", " ++ begun c ++ text (then_due others c) cs
text (term d) (next p c cs) = begun c ++ text (then_due d c) cs
text (rest d) (next p c cs) = begun_rest c ++ text (then_due d c) cs

-- the first term that stands in the bytes
abbrev pub first_text : List ℕ → List ℕ
first_text bs = text (term nothing) (commands Rules 0 bs)

-- all the terms
abbrev pub all_text : List ℕ → List ℕ
all_text bs = text (term others) (commands Rules 0 bs)

-- a term that a command begins, and what is due after it
abbrev pub term_text : Command → Commands → Due → List ℕ
term_text c cs d = begun c ++ text (then_due d c) cs

-- the head of a rule, and its goals where it has some
abbrev pub rule_text : RuleView → List ℕ
rule_text r = first_text r.head ++ (if r.goals == 0 then [] else codes " if " ++ all_text r.body)
