use Rattle.std.proofs.Common.{◌≡◌, ◌+◌, ◌≤◌, List, length, sym, subst, arith, length-append, rules}
use Rattle.terms.specs.Terms.{Term}
use Rattle.comparing.specs.Cursors.{Took}
use Rattle.comparing.specs.Comparisons.{Comparing}
use Rattle.comparing.specs.Texts.{Comes}
use Rattle.comparing.proofs.Cursors.{few_come}
use Rattle.comparing.proofs.Comparisons.{first_terms, all_compared, one_there, other_there, found_other, goes_on}
use Rattle.checker.specs.Texts.{sources}
use Rattle.checker.proofs.cursors.Under.agree.Goals as goal

pub loop-due-init : goal.loop-due-init
loop-due-init g c = λ x xs y ys a b. first_terms a b

pub next-command-requires : goal.next-command-requires
next-command-requires g c =
    let p = c.requires in
    one_there (c.loop-due.invariant p.head.0 p.head.1 p.goal.0 p.goal.1 p.head.2 p.goal.2) c.loop-due-test.true

pub next-requires : goal.next-requires
next-requires g c =
    let p = c.requires in
    other_there (c.loop-due.invariant p.head.0 p.head.1 p.goal.0 p.goal.1 p.head.2 p.goal.2) c.loop-due-test.true

pub returns-then-ne : goal.returns-then-ne
returns-then-ne g c = λ x xs y ys a b.
    found_other (c.loop-due.invariant x xs y ys a b) c.loop-due-test.true c.next-command.result c.next.result c.next-command.ensures.took c.next.ensures.took (search rules)

pub due_after-due-requires-clause-room : goal.due_after-due-requires-clause-room
due_after-due-requires-clause-room g c =
    let p = c.requires in
    let k = c.loop-due.invariant p.head.0 p.head.1 p.goal.0 p.goal.1 p.head.2 p.goal.2 in
    let low : c.loop-due.due ≤ length c.args.self.now.texts.now.slip.now + 517 = omega (arith, k.lefts, length-append k.left p.head.1, few_come k.one) in
    omega (arith, c.args.self.now.texts.now.countable)

pub loop-due-preserved : goal.loop-due-preserved
loop-due-preserved g c = λ x xs y ys a b.
    let same : c.next.result ≡ c.next-command.result = search rules in
    let One : List Term → Type 0 = Comes (sources g.S.Store.rules c.args.self.now.texts.now) c.args.self.now.table.now c.next-command.new.cursor in
    let Other : List Term → Type 0 = Comes (sources g.S.Store.rules c.args.self.now.texts.now) c.args.self.now.table.now c.next.new.cursor in
    subst (Comparing x xs y ys One Other) (sym c.due_after-due.ensures)
    (goes_on (c.loop-due.invariant x xs y ys a b) c.loop-due-test.true c.next-command.result c.next-command.ensures.took (λ p h. subst (Took Other p) same (c.next.ensures.took p h)))

pub returns : goal.returns
returns g c = λ x xs y ys a b. all_compared (c.loop-due.invariant x xs y ys a b) (omega (arith, c.loop-due-test.false))
