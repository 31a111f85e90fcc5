-- What terms mean under cells lent for reading. Assumes nothing.
use Rattle.std.specs.Prelude.{◌≡◌}
use Rattle.terms.specs.Terms.{Term}
use Rattle.bindings.specs.declared.TermAt.{TermAt}
use Rattle.bindings.specs.Trails.{TermIn, meaning_at}
use Rattle.machine.specs.declared.cells.Cells.{Cells}
use Rattle.machine.specs.declared.text.Text.{Text}
use Rattle.machine.specs.declared.view.View.{View}

-- the term stands in the text over cells in use
abbrev pub SeenOver : View → TermAt → Type 0
SeenOver v t = TermIn v.text.now.bytes v.used t

-- what the term means under the cells
abbrev pub seen_as : View → TermAt → Term
seen_as v t = meaning_at v.text.now.bytes v.cells.now v.newest t

-- the view lends the text and the cells
pub record Lent (t : Text) (c : Cells) (v : View) : Type 0 where
  pub text : v.text.now ≡ t
  pub cells : v.cells.now ≡ c.table
  pub used : v.used ≡ c.used
  pub newest : v.newest ≡ c.newest
