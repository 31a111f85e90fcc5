use Rattle.std.proofs.Common.{sym, ap, ◌∙◌, arith}
use Rattle.unification.specs.Variables.{occurs}
use Rattle.bindings.proofs.Endings.{assign_yes}
use Rattle.machine.proofs.Turns.{means_lent}
use Rattle.machine.proofs.guard.Guard.assign.Goals as goal

pub bind-requires : goal.bind-requires
bind-requires c = (omega (arith, c.requires.inside, c.requires.sound.room), c.requires.free)

pub returns : goal.returns
returns c =
    record {
      only = c.bind.ensures.only;
      ends =
          assign_yes _ _ _ _ _ _ c.args.cell c.args.term c.requires.sound c.requires.stands c.requires.inside c.requires.free
          (sym (c.occurs.ensures ∙ ap (occurs c.args.cell) (means_lent c.args.text.now c.args.self.now c.view.ensures c.args.term)) ∙ c.if-occurs.false) c.bind.ensures.cells c.bind.ensures.newest;
    }
