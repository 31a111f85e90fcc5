use Rattle.std.proofs.Common.{◌≡◌, true, sym, subst}
use Rattle.grammar.specs.Texts.{all_fit}
use Rattle.boards.proofs.Changes.{fit_removed}
use Rattle.boards.proofs.boards.Board.remove.Goals as goal

pub invariant_of-self : goal.invariant_of-self
invariant_of-self c =
    record { fit = subst (λ ts. all_fit ts ≡ true) (sym c.remove.ensures.after) (fit_removed c.args.self.now.table c.args.rule c.args.self.now.fit) }
