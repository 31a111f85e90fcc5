use Rattle.std.proofs.Common.{◌++◌, List, ℕ, ap, ◌∙◌}
use Rattle.machine.proofs.facts.load.Goals as goal

pub returns-clause-text : goal.returns-clause-text
returns-clause-text c =
    c.append-2.ensures ∙ ap (λ (l : List ℕ). l ++ c.args.head.now) (c.append.ensures ∙ ap (λ (l : List ℕ). l ++ c.args.goal.now) c.new-text.ensures)
