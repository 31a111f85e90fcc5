use Rattle.std.proofs.Common.{◌-◌, length, take, drop, vec_items, ap, ◌∙◌, arith, rules}
use Rattle.std.proofs.lemmas.List.{length-take, length-drop}
use Rattle.hexadecimal.specs.Digits.{decoded}
use Rattle.hexadecimal.proofs.Spelled.{onward, one_more, starts, ends_odd}
use Rattle.hexadecimal.proofs.decode.Goals as goal

pub returns-then-text-ne0 : goal.returns-then-text-ne0
returns-then-text-ne0 c = ends_odd c.args.text.now c.if-text-ne0.true

pub loop-rest-init : goal.loop-rest-init
loop-rest-init c = (ap (λ x. onward x (decoded c.args.text.now)) c.new-bytes.ensures.items ∙ starts c.args.text.now, c.if-text-ne0.false)

pub loop-rest-preserved : goal.loop-rest-preserved
loop-rest-preserved c =
    let rest = c.loop-rest.rest.now in (
      ap (λ x. onward x (decoded (take (length rest - 2) (drop 2 rest)))) c.in_ok-push.ensures.items
          ∙ one_more (vec_items c.loop-rest.bytes) rest c.in-Some.high c.in-Some-value.low (search rules) c.in-Some.ensures c.in-Some-value.ensures
          ∙ c.loop-rest.invariant.0,
      omega (arith, c.loop-rest.invariant.1, c.in-len2-up.len_at_least, length-take (length rest - 2) (drop 2 rest), length-drop 2 rest),
    )
