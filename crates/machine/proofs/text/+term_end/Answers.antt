use Rattle.std.proofs.Common.{◌≡◌, ℕ, sym, subst, arith, rules}
use Rattle.bindings.specs.Texts.{Spans}
use Rattle.bindings.proofs.Texts.{Fork, inside, skip_atom, skip_variable, fork}
use Rattle.machine.proofs.text.+term_end.Goals as goal
use Rattle.machine.proofs.text.+term_end.Goals.{In_default}

-- the two parts of a pair
parts : {t : _} (c : In_default t) → Fork c.args.text.now c.args.place c.requires.0 c.requires.1
parts c = fork _ _ _ _ c.requires.2 (λ e. omega (arith, e, c.in_default)) (λ e. omega (arith, e, c.in_default))

pub bounds-text-place : goal.bounds-text-place
bounds-text-place t c = let i = inside _ _ _ _ c.requires.2 in search rules

pub overflow_add-result : goal.overflow_add-result
overflow_add-result t c =
    let i = inside _ _ _ _ c.requires.2 in let l = skip_atom _ _ _ _ c.requires.2 c.in-1.is in search rules

pub overflow_add-result-in-2 : goal.overflow_add-result-in-2
overflow_add-result-in-2 t c =
    let i = inside _ _ _ _ c.requires.2 in let l = skip_variable _ _ _ _ c.requires.2 c.in-2.is in search rules

pub overflow_add-place : goal.overflow_add-place
overflow_add-place t c = let i = inside _ _ _ _ c.requires.2 in search rules

pub term_end-middle-requires : goal.term_end-middle-requires
term_end-middle-requires t c =
    let i = inside _ _ _ _ c.requires.2 in
    let f = parts (goal.at.term_end-middle-requires t c).In_default in
    (search rules, (f.left, f.mid, f.at_left))

pub term_end-requires : goal.term_end-requires
term_end-requires t c =
    let f = parts (goal.at.term_end-requires t c).In_default in
    let i = inside _ _ _ _ f.at_left in
    let j = inside _ _ _ _ f.at_right in
    let e : c.term_end-middle.result ≡ f.mid = c.term_end-middle.ensures _ _ f.at_left in (
      search rules,
      (f.right, c.requires.1, subst (λ (m : ℕ). Spans c.args.text.now m f.right c.requires.1) (sym e) f.at_right),
    )

pub returns-in-1 : goal.returns-in-1
returns-in-1 t c = λ u q h. sym (skip_atom _ _ _ _ h c.in-1.is).1

pub returns-in-2 : goal.returns-in-2
returns-in-2 t c = λ u q h. sym (skip_variable _ _ _ _ h c.in-2.is).1

pub returns-in_default : goal.returns-in_default
returns-in_default t c = λ u q h.
    let f = fork _ _ _ _ h (λ e. omega (arith, e, c.in_default)) (λ e. omega (arith, e, c.in_default)) in
    c.term_end.ensures f.right q (subst (λ (m : ℕ). Spans c.args.text.now m f.right q) (sym (c.term_end-middle.ensures _ _ f.at_left)) f.at_right)
