use Rattle.std.proofs.Common.{◌≡◌, ℕ, suc, ◌+◌, ◌<◌, ◌≤◌, List, [], ◌∷◌, ◌++◌, map, reverse, length, get_or, take, sym, refl, ap, ◌∙◌, ap₂, arith}
use Rattle.std.proofs.Math.Seq.{take-suc}
use Rattle.std.proofs.lemmas.List.{take_all, map-append, reverse-append, reverse-reverse, length-map, length-take}
use Rattle.terms.specs.Terms.{Term, Rule}
use Rattle.slips.specs.Slips.{SlipStep, steps_of, numbered, numbers}
use Rattle.bindings.specs.Cells.{Cell}
use Rattle.bindings.specs.Checks.{undone}
use Rattle.branches.specs.declared.Step.{Step}
use Rattle.branches.specs.Branches.{branch}
use Rattle.machine.specs.Branches.{taken}
use Rattle.machine.specs.Machines.{state, rules, place}
use Rattle.machine.specs.States.{text_of}
use Rattle.machine.specs.Climbs.{steps_in}
use Rattle.machine.proofs.Climbs.{no_step}
use Rattle.machine.proofs.States.{true_good}
use Rattle.machine.proofs.machine.Machine.numbers.Goals as goal

-- The numbers of a slip's steps are those of the branch, oldest first.
numbers_are : (rs : List Rule) (ts : List Term) (text : List ℕ) (ss : List Step) (cells : List Cell) (h : ℕ)
    → numbers (steps_of rs ts (branch text ss cells h)) ≡ map (λ (s : Step). s.rule) (reverse ss)
unfolding branch
numbers_are rs ts text [] cells h = refl
numbers_are rs ts text (s ∷ ss) cells h =
    let was = undone cells h s.mark in
    map-append (λ (x : SlipStep). x.rule) (steps_of rs ts (branch text ss was s.mark)) _
    ∙ ap (λ (ns : List ℕ). ns ++ (s.rule ∷ [])) (numbers_are rs ts text ss was s.mark)
    ∙ sym (map-append (λ (x : Step). x.rule) (reverse ss) (s ∷ []))
    ∙ ap (map (λ (x : Step). x.rule)) (sym (reverse-append (s ∷ []) ss))

pub taken-step-items-requires : goal.taken-step-items-requires
taken-step-items-requires c = (true_good (state c.args.self.now) c.args.self.now.kept).depth

pub push-requires : goal.push-requires
push-requires c =
    let steps = taken c.args.self.now.tables.branch in
    let depth = (true_good (state c.args.self.now) c.args.self.now.kept).depth in
    omega (
      arith,
      depth,
      c.loop-step-test.true,
      ap length c.taken-step-items.ensures,
      ap length c.loop-step.invariant,
      length-map (take c.loop-step.step-index steps) (λ (s : Step). s.rule),
      length-take c.loop-step.step-index steps,
      length-take c.args.self.now.tables.branch.depth c.args.self.now.tables.branch.steps,
    )

pub loop-step-preserved : goal.loop-step-preserved
loop-step-preserved c =
    let steps = taken c.args.self.now.tables.branch in
    let i = c.loop-step.step-index in
    let there : i < length steps = omega (arith, c.loop-step-test.true, ap length c.taken-step-items.ensures) in
    let more : i + 1 ≡ suc i = omega arith in
    c.push.ensures.items
    ∙ ap₂ (λ (ns : List ℕ) (s : Step). ns ++ (s.rule ∷ [])) c.loop-step.invariant (ap (λ (ss : List Step). get_or ss i no_step) c.taken-step-items.ensures)
    ∙ sym (map-append (λ (s : Step). s.rule) (take i steps) (get_or steps i no_step ∷ []))
    ∙ ap (map (λ (s : Step). s.rule)) (sym (take-suc steps i no_step there))
    ∙ ap (λ (n : ℕ). map (λ (s : Step). s.rule) (take n steps)) (sym more)

pub returns : goal.returns
returns c =
    let s = state c.args.self.now in
    let steps = taken c.args.self.now.tables.branch in
    let all : length steps ≤ c.loop-step.step-index = omega (arith, c.loop-step-test.false, ap length c.taken-step-items.ensures) in
    c.loop-step.invariant
    ∙ ap (map (λ (x : Step). x.rule)) (take_all c.loop-step.step-index steps all ∙ sym (reverse-reverse steps))
    ∙ sym (numbers_are (rules c.args.self.now) (numbered (place c.args.self.now).cells) (text_of s) (steps_in s.tables) s.tables.cells.table s.tables.cells.newest)
