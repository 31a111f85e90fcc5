use Rattle.std.proofs.Common.{◌≡◌, ◌%◌, length, vec_items}
use Rattle.hexadecimal.specs.Digits.{decoded}
use Rattle.hexadecimal.proofs.Spelled.{onward}
use Rattle.hexadecimal.proofs.decode.Given as goal

abbrev pub invariant-loop-rest : goal.invariant-loop-rest
invariant-loop-rest l = (onward (vec_items l.bytes) (decoded l.rest) ≡ decoded l.text) × (length l.rest % 2 ≡ 0)

abbrev pub decreases-loop-rest : goal.decreases-loop-rest
decreases-loop-rest l = length l.rest
