use Rattle.std.proofs.Common.{refl, length-set}
use Rattle.bindings.proofs.Chains.{bind_since}
use Rattle.machine.proofs.guard.Guard.bind.Goals as goal

pub returns : goal.returns
returns c =
    record {
      cells = refl;
      newest = refl;
      only =
          record {
            used = refl;
            mark = refl;
            keep = refl;
            same = refl;
            many = length-set _ _ _;
            since = λ was m s. bind_since was m _ _ c.args.cell c.args.term c.requires.0 c.requires.1 s;
          };
    }
