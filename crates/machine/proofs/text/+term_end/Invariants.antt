use Rattle.std.proofs.Common.{◌-◌, length}
use Rattle.machine.proofs.text.+term_end.Given as goal

abbrev pub decreases-term_end : goal.decreases-term_end
decreases-term_end l = length l.text.now - l.place
