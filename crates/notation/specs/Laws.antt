-- What is shown of the bytes of terms. Assumes nothing.
use Rattle.std.specs.Prelude.{◌≡◌, ℕ, List, ◌++◌}
use Rattle.terms.specs.declared.Form.TheVariants.{Rules}
use Rattle.terms.specs.Terms.{Term, Rule}
use Rattle.terms.specs.Bytes.{encoding, encodings}
use Rattle.reading.specs.Views.{rule_shown}
use Rattle.notation.specs.Notation.{shown, listed, shown_rule}
use Rattle.notation.specs.Commands.{first_text, all_text, rule_text}

-- of bytes that begin with a term, that term
abbrev pub FirstIsShown : Type 0
FirstIsShown = (t : Term) (left : List ℕ) → first_text (encoding Rules t ++ left) ≡ shown t

-- of the bytes of terms, these terms
abbrev pub AllAreShown : Type 0
AllAreShown = (ts : List Term) → all_text (encodings Rules ts) ≡ listed ts

-- of a rule that was read at p, that rule
abbrev pub RuleIsShown : Type 0
RuleIsShown = (p : ℕ) (r : Rule) → rule_text (rule_shown p r) ≡ shown_rule r
