use Rattle.std.proofs.Common.{ℕ, ◌≤◌, List, length}
use Rattle.terms.specs.Terms.{Term}
use Rattle.comparing.specs.Stacks.{Stacked}
use Rattle.comparing.specs.Texts.{Comes}
use Rattle.checker.specs.Texts.{sources}
use Rattle.checker.proofs.texts.Texts.next_frame.Given as goal

abbrev pub invariant-loop-top : goal.invariant-loop-top
invariant-loop-top g l = record {
  stacked : (table : List ℕ) (goals : List Term) → Stacked (Comes (sources g.S.Store.rules l.self) table) l.initial.frames.items goals → Stacked (Comes (sources g.S.Store.rules l.self) table) l.frames.items goals;
  fewer : length l.frames.items ≤ length l.initial.frames.items;
}

abbrev pub decreases-loop-top : goal.decreases-loop-top
decreases-loop-top g l = length l.frames.items
