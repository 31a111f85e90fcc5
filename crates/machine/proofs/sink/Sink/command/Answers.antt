use Rattle.machine.proofs.Sinks.{puts_then}
use Rattle.machine.proofs.sink.Sink.command.Goals as goal

pub returns : goal.returns
returns c = puts_then c.in_ok-put.ensures c.two_bytes.ensures
