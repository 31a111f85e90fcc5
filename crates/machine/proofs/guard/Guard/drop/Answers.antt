use Rattle.std.proofs.Common.{sym, ◌∙◌, true≢false}
use Rattle.machine.proofs.guard.Guard.drop.Goals as goal
use Rattle.machine.proofs.guard.Guard.drop.Goals.{then-not-keep, else-not-keep}

pub returns : goal.returns
returns c =
    elim c.if-not-keep.branch [
      | then-not-keep w ↦
          record {
            kept = λ k. absurd (true≢false (sym k ∙ w.if-not-keep.true));
            undone = λ k was s. w.cells-is ∙ w.unwind.ensures was s;
          }
      | else-not-keep w ↦
          record { kept = λ k. w.cells-is; undone = λ k was s. absurd (true≢false (sym w.if-not-keep.false ∙ k)) }
    ]
