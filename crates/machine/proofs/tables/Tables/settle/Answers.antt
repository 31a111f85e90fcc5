use Rattle.std.proofs.Common.{refl, ap, ◌∙◌, arith}
use Rattle.bindings.proofs.Checks.{stands_true}
use Rattle.machine.specs.declared.text.Text.{Text}
use Rattle.machine.proofs.Common.{settled, sound_as, term_as}
use Rattle.machine.proofs.tables.Tables.settle.Goals as goal

pub view-requires : goal.view-requires
view-requires c =
    sound_as (ap (λ (x : Text). x.bytes) c.try_head.ensures.text) refl refl refl
    (settled c.requires.ready c.try_head.ensures.tried c.if-not-try_head.false).sound

pub invariant_of-instance : goal.invariant_of-instance
invariant_of-instance c =
    let s = settled c.requires.ready c.try_head.ensures.tried c.if-not-try_head.false in
    let v = c.view.ensures in
    let t = ap (λ (x : Text). x.bytes) (v.text ∙ c.try_head.ensures.text) in
    record { stands = stands_true (term_as t v.used c.args.goal s.stands); few = omega (arith, c.requires.few, s.used, v.used) }
