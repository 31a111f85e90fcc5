-- The trail that is linked through the cells, and marks on it. Assumes nothing.
use Rattle.std.specs.Prelude.{◌≡◌, ℕ, zero, suc, ◌+◌, ◌*◌, ◌<◌, ◌≤◌, false, List, [], ◌∷◌, length, get_or, ◌≢◌, slice_index_or, slice_set, Some, None}
use Rattle.terms.specs.Terms.{Term}
use Rattle.unification.specs.Variables.{occurs}
use Rattle.bindings.specs.declared.TheConstants.{NONE_BOUND}
use Rattle.bindings.specs.declared.Binding.{Binding}
use Rattle.bindings.specs.Cells.{Cell}
use Rattle.bindings.specs.declared.TermAt.{TermAt}
use Rattle.bindings.specs.Meanings.{Trail, meaning, size, growth}
use Rattle.bindings.specs.Texts.{term, Stands}

-- ── marks ──

-- n links back from the newest bound cell h lead to m, and the cells are then `was`
unfoldable pub Back : ℕ → List Cell → ℕ → List Cell → ℕ → Type 0
Back zero was m cells h = (cells ≡ was) × (h ≡ m)
Back (suc n) was m cells h =
    (h < length cells) × (h ≢ m)
    × ((b : Binding) × (slice_index_or cells h None ≡ Some b) × Back n was m (slice_set cells h None) b.before)

-- the cells, with the newest bound one h, came from `was`, with the newest m, by bindings alone
pub record Since (was : List Cell) (m : ℕ) (cells : List Cell) (h : ℕ) : Type 0 where
  pub mark : m < length cells → slice_index_or cells m None ≢ None
  pub links : ℕ
  pub chain : Back links was m cells h

-- ── counts ──

abbrev pub one_bound : Cell → ℕ
one_bound None = 0
one_bound (Some b) = 1

-- how many cells are bound
abbrev pub bound_count : List Cell → ℕ
bound_count [] = 0
bound_count (c ∷ cells) = one_bound c + bound_count cells

abbrev pub one_free : Cell → ℕ
one_free None = 1
one_free (Some b) = 0

-- how many cells are free
abbrev pub free_count : List Cell → ℕ
free_count [] = 0
free_count (c ∷ cells) = one_free c + free_count cells

-- ── the trail ──

-- the binding of the cell h, and then those before it
abbrev pub linked_from : Cell → ℕ → List ℕ → (ℕ → Trail) → Trail
linked_from None h text older = []
linked_from (Some b) h text older = (h, term text b.term.place b.term.level) ∷ older b.before

-- the bindings that at most n links from the cell h on reach
unfoldable pub trail_within : ℕ → List ℕ → List Cell → ℕ → Trail
trail_within zero text cells h = []
trail_within (suc n) text cells h = linked_from (slice_index_or cells h None) h text (λ b. trail_within n text (slice_set cells h None) b)

-- the trail of the cells, the newest bound one being h
unfoldable pub trail : List ℕ → List Cell → ℕ → Trail
trail text cells h = trail_within (length cells) text cells h

-- the newest bound cell of an empty trail
abbrev pub none_bound : ℕ
none_bound = NONE_BOUND

-- a term of the text over cells in use
abbrev pub TermIn : List ℕ → ℕ → TermAt → Type 0
TermIn text used t = Stands text used t.place t.level

-- the cell h is in use and bound as b says, to a term that stands in the text over cells in use
pub record Link (text : List ℕ) (used : ℕ) (cells : List Cell) (h : ℕ) (b : ℕ × Term) : Type 0 where
  pub binding : Binding
  pub inside : h < used
  pub is : get_or cells h None ≡ Some binding
  pub names : b.0 ≡ h
  pub holds : b.1 ≡ term text binding.term.place binding.term.level
  pub stands : TermIn text used binding.term

-- the chain from h is this trail and goes over each bound cell once; each binding is of a cell that was free before
-- it, to a term in which that cell does not occur
unfoldable pub Linked : List ℕ → ℕ → List Cell → ℕ → Trail → Type 0
Linked text used cells h [] = (h ≡ none_bound) × ((i : ℕ) → slice_index_or cells i None ≡ None)
Linked text used cells h (b ∷ older) =
    (k : Link text used cells h b) × (occurs b.0 (meaning older b.1) ≡ false)
    × Linked text used (slice_set cells h None) k.binding.before older

-- the text, the cells, of which so many are in use, and the newest bound one are in order
pub record Sound (text : List ℕ) (used : ℕ) (cells : List Cell) (h : ℕ) : Type 0 where
  pub short : length text < 65536
  pub room : used ≤ length cells
  pub few : length cells ≤ none_bound
  pub linked : Linked text used cells h (trail text cells h)

-- what a term of the text means under the cells
abbrev pub meaning_at : List ℕ → List Cell → ℕ → TermAt → Term
meaning_at text cells h t = meaning (trail text cells h) (term text t.place t.level)

-- ── the falling number ──

-- no meaning is as large
unfoldable pub size_bound : List ℕ → List Cell → ℕ
size_bound text cells = suc (growth (length text) (length cells))

-- the size of the term's meaning, and for each free cell a bound on it
unfoldable pub weight : List ℕ → List Cell → ℕ → TermAt → ℕ
weight text cells h t = size (meaning_at text cells h t) + free_count cells * size_bound text cells
