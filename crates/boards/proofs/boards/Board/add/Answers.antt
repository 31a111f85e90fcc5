use Rattle.std.proofs.Common.{◌≡◌, true, sym, subst}
use Rattle.grammar.specs.Texts.{all_fit}
use Rattle.grammar.proofs.Fitting.{fit_told}
use Rattle.reading.specs.Views.{rule_view}
use Rattle.reading.proofs.Parts.{known}
use Rattle.boards.proofs.Changes.{fit_pushed}
use Rattle.boards.proofs.WasRead.{was_read}
use Rattle.boards.proofs.boards.Board.add.Goals as goal

pub invariant_of-self : goal.invariant_of-self
invariant_of-self c =
    let x = c.args.rule.now in
    let read = was_read x (rule_view c.in_ok-read_rule.field-0) c.in_ok-read_rule.ensures in
    record {
      fit = subst (λ ts. all_fit ts ≡ true) (sym c.push.ensures.after)
          (fit_pushed c.args.self.now.table x c.args.self.now.fit (fit_told x read.0 (known x c.type_inv.rule) read.1));
    }
