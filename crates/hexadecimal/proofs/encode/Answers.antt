use Rattle.std.proofs.Common.{◌≡◌, string_bytes, ◌∙◌}
use Rattle.std.proofs.lemmas.Result.{IfOk-weaker}
use Rattle.hex.specs.Hex.{encode_upper}
use Rattle.hexadecimal.specs.Digits.{encoded}
use Rattle.hexadecimal.proofs.Spelled.{written}
use Rattle.hexadecimal.proofs.encode.Goals as goal

pub returns : goal.returns
returns c =
    IfOk-weaker c.encode_upper.result (λ s. string_bytes s ≡ encode_upper c.args.bytes.now) (λ s. string_bytes s ≡ encoded c.args.bytes.now)
    (λ s e. e ∙ written c.args.bytes.now c.type_inv.bytes) c.encode_upper.ensures
