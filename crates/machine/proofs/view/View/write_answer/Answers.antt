use Rattle.std.proofs.Common.{◌≡◌, ℕ, ◌+◌, IfOk, subst, arith}
use Rattle.machine.specs.Numberings.{Met}
use Rattle.machine.proofs.Sinks.{puts_then}
use Rattle.machine.proofs.view.View.write_answer.Goals as goal

pub returns : goal.returns
returns c =
    let e : 0 + c.args.variables ≡ c.args.variables = omega arith in
    record {
      same = c.write_counted.ensures.same;
      puts = puts_then c.in_ok-put.ensures c.write_counted.ensures.puts;
      met = subst (λ (k : ℕ). IfOk c.write_counted.result (λ u. Met c.args.self.now k c.write_counted.new.writer.numbering)) e c.write_counted.ensures.met;
    }
