-- Terms written under the names that a numbering gives. Assumes nothing.
use Rattle.std.specs.Prelude.{◌≡◌, ℕ, zero, suc, ◌≤◌, List, [], ◌∷◌, map, length, take, IfOk, Result, Some, None, Option}
use Rattle.terms.specs.declared.Form.TheVariants.{Slips}
use Rattle.terms.specs.Terms.{Term, var}
use Rattle.terms.specs.Bytes.{encodings}
use Rattle.slips.specs.Slips.{all_appeared, renumbered}
use Rattle.slips.specs.Numberings.{Names, own, by_first, term_bytes, names_after, Numbers}
use Rattle.bindings.specs.Meanings.{meaning}
use Rattle.bindings.specs.Trails.{trail}
use Rattle.bindings.specs.Presents.{presents}
use Rattle.machine.specs.declared.instance.Writer.{Writer}
use Rattle.machine.specs.declared.numbering.Numbering.{Numbering}
use Rattle.machine.specs.declared.numbering.Numbering.TheVariants.{ByCell, ByFirst}
use Rattle.machine.specs.declared.sink.NoRoom.{NoRoom}
use Rattle.machine.specs.declared.view.View.{View}
use Rattle.machine.specs.Sinks.{Puts}

-- the number that an entry of the table gives its cell: 0 stands for none
abbrev pub number_of : ℕ → Option ℕ
number_of zero = None
number_of (suc n) = Some n

abbrev pub NamedSo : Numbering → ℕ → Names → Type 0
NamedSo ByCell used own = used ≤ 256
NamedSo ByCell used (by_first xs) = ⊥
NamedSo (ByFirst u) used own = ⊥
NamedSo (ByFirst u) used (by_first xs) = Numbers (map number_of u.numbers) u.met used xs

-- the numbering names the cells in use so
pub record Named (n : Numbering) (used : ℕ) (ns : Names) : Type 0 where
  pub so : NamedSo n used ns

-- the term is put by the writer w, which is then w'; its numbering has then met the term's variables as well
pub record Writes (used : ℕ) (w w' : Writer) (t : Term) (r : Result Unit NoRoom) : Type 0 where
  pub same : w'.sink.ghost_name ≡ w.sink.ghost_name
  pub buffer : w'.sink.now.buffer.ghost_name ≡ w.sink.now.buffer.ghost_name
  pub puts : (ns : Names) → Named w.numbering used ns → Puts w.sink.now w'.sink.now (term_bytes ns t) r
  pub after : (ns : Names) → Named w.numbering used ns → IfOk r (λ u. Named w'.numbering used (names_after ns t))

-- the terms are put one after the other, variables as unknowns
pub record WritesAll (used : ℕ) (w w' : Writer) (ts : List Term) (r : Result Unit NoRoom) : Type 0 where
  pub same : w'.sink.ghost_name ≡ w.sink.ghost_name
  pub puts : (xs : List ℕ) → Named w.numbering used (by_first xs) → Puts w.sink.now w'.sink.now (encodings Slips (map (renumbered (all_appeared xs ts)) ts)) r
  pub after : (xs : List ℕ) → Named w.numbering used (by_first xs) → IfOk r (λ u. Named w'.numbering used (by_first (all_appeared xs ts)))

-- how many terms there are, and the terms
abbrev pub counted_bytes : List Term → List ℕ
counted_bytes ts = length ts ∷ encodings Slips ts

-- ── the cells ──

-- the present term of a cell
abbrev pub seen_cell : View → ℕ → Term
seen_cell v c = meaning (trail v.text.now.bytes v.cells.now v.newest) (var c)

-- the present term of each cell in use
abbrev pub seen_terms : View → List Term
seen_terms v = presents (trail v.text.now.bytes v.cells.now v.newest) v.used

-- the numbering has met the unknowns of the first k cells
abbrev pub Met : View → ℕ → Numbering → Type 0
Met v k n = Named n v.used (by_first (all_appeared [] (take k (seen_terms v))))
