use Rattle.machine.proofs.Sinks.{puts_then}
use Rattle.machine.proofs.view.View.write_step.Goals as goal

pub returns : goal.returns
returns c =
    record {
      same = c.write_counted.ensures.same;
      puts = puts_then c.in_ok-command.ensures c.write_counted.ensures.puts;
      met = c.write_counted.ensures.met;
    }
