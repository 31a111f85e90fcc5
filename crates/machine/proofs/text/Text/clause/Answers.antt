use Rattle.std.proofs.Common.{◌≡◌, ℕ, ◌+◌, List, length, get_or, ◌∙◌, ap, subst, ap₂, arith, rules}
use Rattle.terms.specs.declared.Form.TheVariants.{Rules}
use Rattle.terms.specs.Bytes.{encoding}
use Rattle.bindings.proofs.Texts.{inside}
use Rattle.branches.proofs.Copies.{head_spans}
use Rattle.machine.specs.Texts.{Text}
use Rattle.machine.proofs.text.Text.clause.Goals as goal

pub end-requires : goal.end-requires
end-requires c =
    let t = c.requires in (t.0.head, _, head_spans c.args.self.now.bytes c.args.begin t.0 t.1 t.2)

pub overflow_cast-result-2 : goal.overflow_cast-result-2
overflow_cast-result-2 c =
    let t = c.requires in
    let s = head_spans c.args.self.now.bytes c.args.begin t.0 t.1 t.2 in
    let i = inside _ _ _ _ s in
    let e = c.end.ensures _ _ s in
    let n = c.self.invariant in
    search rules

pub returns : goal.returns
returns c = λ r f h.
    let e = c.end.ensures _ _ (head_spans c.args.self.now.bytes c.args.begin r f h) in
    let two : c.args.begin + 1 + 1 ≡ c.args.begin + 2 = omega arith in
    let goals = subst (λ (n : ℕ). get_or c.args.self.now.bytes n 0 ≡ length r.goals) two h.2.2.1 in
    ap₂ (λ (b : ℕ) (x : List ℕ). record { head = c.args.begin + 5; body = b; variables = get_or x (c.args.begin + 1) 0; goals = get_or x (c.args.begin + 2) 0 }) e (c.as_slice-text.ensures.value ∙ ap (λ (t : Text). t.bytes) c.self.view_is)
    ∙ ap₂ (λ (v g : ℕ). record { head = c.args.begin + 5; body = c.args.begin + 5 + length (encoding Rules r.head); variables = v; goals = g }) h.2.1 goals
