-- A call of next on its way: what it comes to from here. Assumes nothing.
use Rattle.std.specs.Prelude.{◌≡◌, ℕ, List}
use Rattle.terms.specs.Terms.{Rule}
use Rattle.resolution.specs.declared.Word.TheVariants.{Stopped, NoMore}
use Rattle.resolution.specs.Lines.{Place, back, onward, lines}
use Rattle.resolution.specs.Search.{Condition, running, standing, ended, stopped, Search, Called, settled, repeated}

-- a call with the allowance a that began at s, with so many tries left at the place p, in this condition
abbrev pub comes_to : List Rule → ℕ → Search → ℕ → Place → Condition → Called
comes_to rs a s left p running = settled a s (lines rs left p)
comes_to rs a s left p standing = settled a s (onward (lines rs) left p (back left p.branch))
comes_to rs a s left p ended = repeated NoMore s
comes_to rs a s left p (stopped why) = repeated (Stopped why) s

-- an ended or a stopped search is still as it was
abbrev pub Still : Condition → Search → Search → Type 0
Still running now s = Unit {0}
Still standing now s = Unit {0}
Still ended now s = now ≡ s
Still (stopped why) now s = now ≡ s
