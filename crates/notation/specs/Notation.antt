-- The readable notation of terms. Assumes nothing.
use Rattle.std.specs.Prelude.{ℕ, zero, suc, List, [], ◌∷◌, ◌++◌, codes, Option, Some, None}
use Rattle.std.specs.Fmt.{decimal}
use Rattle.grammar.specs.declared.faults.BookFault.{BookFault}
use Rattle.grammar.specs.Refusals.{book_number, book_place, book_layer, book_rule, or_dash as number_or_dash, fault_text}
use Rattle.terms.specs.Terms.{Term, var, atom, pair, Rule}

-- a variable by its number
abbrev pub variable : ℕ → List ℕ
variable x = codes "?" ++ decimal x

-- a last rest, which closes the parentheses
abbrev pub last : List ℕ → List ℕ
last text = codes " . " ++ text ++ codes ")"

-- atom 0 as a last rest is not written
abbrev pub last_atom : ℕ → List ℕ
last_atom zero = codes ")"
last_atom (suc n) = last (decimal (suc n))

abbrev mutual
  -- a term
  pub shown : Term → List ℕ
  shown (var x) = variable x
  shown (atom a) = decimal a
  shown (pair s t) = codes "(" ++ shown s ++ rest t

  -- a pair's rest
  pub rest : Term → List ℕ
  rest (var x) = last (variable x)
  rest (atom a) = last_atom a
  rest (pair s t) = codes " " ++ shown s ++ rest t

-- terms that follow others
abbrev pub others : List Term → List ℕ
others [] = []
others (t ∷ ts) = codes ", " ++ shown t ++ others ts

-- terms with commas between them
abbrev pub listed : List Term → List ℕ
listed [] = []
listed (t ∷ ts) = shown t ++ others ts

-- a rule's goals, where it has some
abbrev pub goals : List Term → List ℕ
goals [] = []
goals (t ∷ ts) = codes " if " ++ listed (t ∷ ts)

-- a rule
abbrev pub shown_rule : Rule → List ℕ
shown_rule r = shown r.head ++ goals r.goals

-- what is printed of a value, or a dash where there is none
abbrev pub or_dash : {T : Type 0} → (T → Option (List ℕ)) → Option T → Option (List ℕ)
or_dash printed None = Some (codes "-")
or_dash printed (Some x) = printed x

-- what is printed of a book's fault: number, place and layer, and the number of the rule that it was found in
abbrev pub in_rule_text : BookFault → List ℕ
in_rule_text f = fault_text (book_number f) (book_place f) (book_layer f) ++ codes "," ++ number_or_dash (book_rule f)
