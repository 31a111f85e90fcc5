use Rattle.grammar.proofs.Rows.{stops}
use Rattle.grammar.proofs.laws.faults_leave_what_is_before.Goals as goal

pub returns : goal.returns
returns c = stops
