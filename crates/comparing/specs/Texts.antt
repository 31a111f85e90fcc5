-- The texts that cursors go over: the goals of a query, and the rules of a store. Assumes nothing.
use Rattle.std.specs.Prelude.{ℕ, Bool, List, ◌∷◌}
use Rattle.terms.specs.Terms.{Term}
use Rattle.stores.specs.Answers.{bytes_of}
use Rattle.comparing.specs.declared.Source.{Source}
use Rattle.comparing.specs.declared.Source.TheVariants.{Query, Rule}
use Rattle.comparing.specs.declared.Cursor.{Cursor}
use Rattle.comparing.specs.Cursors.{Means}
use Rattle.comparing.specs.Comparisons.{Compared}

-- what a slip is checked by: the rules of a store, the goals of a query, and the slip itself
pub record Sources : Type 0 where
  pub rules : List (List ℕ)
  pub body : List ℕ
  pub slip : List ℕ

-- the bytes of a text; a number that is no rule's has none
abbrev pub text_of : Sources → Source → List ℕ
text_of s Query = s.body
text_of s (Rule i) = bytes_of s.rules i

-- these terms are to come at a cursor, by a table of where the terms of the slip begin
abbrev pub Comes : Sources → List ℕ → Cursor → List Term → Type 0
Comes s table c pending = Means s.slip table (text_of s c.source) c.first c.place c.inside pending

-- a term is to come
abbrev pub SomeTerm : Sources → List ℕ → Cursor → Type 0
SomeTerm s table c = (t : Term) × (ts : List Term) × Comes s table c (t ∷ ts)

-- a term was taken off both cursors as long as they were the same, and b says whether they are
abbrev pub Agreed : Sources → List ℕ → Cursor → Cursor → Cursor → Cursor → Bool → Type 0
Agreed s table one other one2 other2 b =
    (x : Term) (xs : List Term) (y : Term) (ys : List Term) → Comes s table one (x ∷ xs) → Comes s table other (y ∷ ys)
    → Compared x xs y ys (Comes s table one2) (Comes s table other2) b
