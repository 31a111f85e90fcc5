use Rattle.std.proofs.Common.{ℕ, Bool, cond, List, set, sym, ap, ◌∙◌, arith}
use Rattle.machine.specs.declared.sink.Sink.{Sink}
use Rattle.machine.proofs.Sinks.{one_put}
use Rattle.machine.proofs.sink.Sink.put.Goals as goal
use Rattle.machine.proofs.sink.Sink.put.Goals.{then-self-2, else-self-2}

pub returns : goal.returns
returns c =
    let s = c.args.self.now in
    let after : Bool → List ℕ = λ (b : Bool). cond b (set s.buffer.now s.count c.args.byte) s.buffer.now in
    elim c.if-self-2.branch [
      | then-self-2 w ↦
          one_put s c.if-self-2.self c.args.byte (ap (λ (x : Sink). x.count) w.self-is) (ap (λ (x : Sink). x.writing) w.self-is) (ap (λ (x : Sink). x.buffer.ghost_name) w.self-is)
          (ap (λ (x : Sink). x.buffer.now) w.self-is ∙ ap after (sym w.if-self-2.true)) (omega (arith, c.if-self.false))
      | else-self-2 w ↦
          one_put s c.if-self-2.self c.args.byte (ap (λ (x : Sink). x.count) w.self-is) (ap (λ (x : Sink). x.writing) w.self-is) (ap (λ (x : Sink). x.buffer.ghost_name) w.self-is)
          (ap (λ (x : Sink). x.buffer.now) w.self-is ∙ ap after (sym w.if-self-2.false)) (omega (arith, c.if-self.false))
    ]
