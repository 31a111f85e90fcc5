use Rattle.std.proofs.Common.{◌≡◌, ℕ, ◌∷◌, ◌/◌, ◌%◌, get_or, List, [], ap, subst, ap₂, arith}
use Rattle.machine.specs.Sinks.{Puts}
use Rattle.machine.proofs.Sinks.{puts_then}
use Rattle.machine.proofs.sink.Sink.two_bytes.Goals as goal

pub returns : goal.returns
returns c =
    let e = c.to_be_bytes.ensures in
    let high : get_or c.to_be_bytes.result 0 0 ≡ c.args.number / 256 = omega (arith, ap (λ (l : List ℕ). get_or l 0 0) e) in
    let low : get_or c.to_be_bytes.result 1 0 ≡ c.args.number % 256 = ap (λ (l : List ℕ). get_or l 1 0) e in
    subst (λ (bs : List ℕ). Puts c.args.self.now c.put-2.new.self bs c.put-2.result) (ap₂ (λ (x y : ℕ). x ∷ y ∷ []) high low) (puts_then c.in_ok-put.ensures c.put-2.ensures)
