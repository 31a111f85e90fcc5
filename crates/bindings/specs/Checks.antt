-- Tests whether terms stand in the text, cells are in order, and a mark is on their chain. Assumes nothing.
use Rattle.std.specs.Prelude.{ℕ, zero, suc, ◌+◌, ◌*◌, Bool, true, cond, not, ◌&&◌, ◌||◌, List, length, ◌==◌, nat_le, nat_lt, slice_index, slice_index_or, slice_set, Some, None}
use Rattle.terms.specs.Terms.{Term, var, atom, pair}
use Rattle.unification.specs.Variables.{occurs}
use Rattle.bindings.specs.Cells.{Cell}
use Rattle.bindings.specs.Meanings.{meaning}
use Rattle.bindings.specs.Texts.{tree, term}
use Rattle.bindings.specs.Trails.{one_bound, bound_count, trail_within, none_bound}

-- ── terms ──

-- each variable of the term is below n
unfoldable pub within? : ℕ → Term → Bool
within? n (var x) = nat_lt x n
within? n (atom a) = true
within? n (pair s t) = within? n s && within? n t

-- how many bytes the term takes in a text
unfoldable pub width : Term → ℕ
width (var x) = 2
width (atom a) = 3
width (pair s t) = 1 + width s + width t

-- the term stands in the text from p on
unfoldable pub spans? : List ℕ → ℕ → Term → Bool
spans? text p (var x) = nat_lt (p + 1) (length text) && (slice_index text p == 2 && x == slice_index text (p + 1))
spans? text p (atom a) =
    nat_lt (p + 2) (length text) && (slice_index text p == 1 && a == slice_index text (p + 1) * 256 + slice_index text (p + 2))
spans? text p (pair s t) =
    nat_lt p (length text) && (slice_index text p == 3 && (spans? text (p + 1) s && spans? text (p + 1 + width s) t))

-- a term stands at p, and its variables from the cell l on are below n
unfoldable pub stands? : List ℕ → ℕ → ℕ → ℕ → Bool
stands? text n p l = spans? text p (tree text p) && within? n (term text p l)

-- a term stands at p, and its own variables are below v
unfoldable pub declares? : List ℕ → ℕ → ℕ → Bool
declares? text v p = spans? text p (tree text p) && within? v (tree text p)

-- ── marks ──

-- at a free cell there is no link to follow
abbrev pub back_from : Cell → List Cell → ℕ → (ℕ → List Cell × ℕ) → List Cell × ℕ
back_from None cells h older = (cells, h)
back_from (Some b) cells h older = older b.before

-- the cells and the newest bound one after at most n links back from h, no further than m
unfoldable pub back_within : ℕ → List Cell → ℕ → ℕ → List Cell × ℕ
back_within zero cells h m = (cells, h)
back_within (suc n) cells h m =
    cond (h == m) (cells, h) (back_from (slice_index_or cells h None) cells h (λ b. back_within n (slice_set cells h None) b m))

-- the cells after going back link by link from the newest bound one h to the mark m
unfoldable pub undone : List Cell → ℕ → ℕ → List Cell
undone cells h m = (back_within (length cells) cells h m).0

-- the mark m is no free cell, and the links back from the newest bound one h lead to it
unfoldable pub marked? : List Cell → ℕ → ℕ → Bool
marked? cells h m =
    (nat_le (length cells) m || one_bound (slice_index_or cells m None) == 1) && (back_within (length cells) cells h m).1 == m

-- ── the trail ──

-- the chain ends here, and no cell is bound
unfoldable pub ended? : List Cell → ℕ → Bool
ended? cells h = h == none_bound && bound_count cells == 0

-- the cell h is free and ends the chain, or is in use and bound to a term that stands and is right, and the rest is too
abbrev pub linked_by? : Cell → List ℕ → ℕ → List Cell → ℕ → (ℕ → Term → Bool) → (ℕ → Bool) → Bool
linked_by? None text used cells h right rest = ended? cells h
linked_by? (Some b) text used cells h right rest =
    nat_lt h used
    && (stands? text used b.term.place b.term.level && (right b.before (term text b.term.place b.term.level) && rest b.before))

-- the chain of at most n links from h goes over each bound cell once; each binding is of a cell in use, to a term that
-- stands in the text over cells in use and in which that cell does not occur
unfoldable pub linked? : ℕ → List ℕ → ℕ → List Cell → ℕ → Bool
linked? zero text used cells h = ended? cells h
linked? (suc n) text used cells h =
    linked_by? (slice_index_or cells h None) text used cells h
    (λ b t. not (occurs h (meaning (trail_within n text (slice_set cells h None) b) t)))
    (λ b. linked? n text used (slice_set cells h None) b)

-- the text, the cells, of which so many are in use, and the newest bound one are in order
unfoldable pub sound? : List ℕ → ℕ → List Cell → ℕ → Bool
sound? text used cells h =
    nat_lt (length text) 65536
    && (nat_le used (length cells) && (nat_le (length cells) none_bound && linked? (length cells) text used cells h))
