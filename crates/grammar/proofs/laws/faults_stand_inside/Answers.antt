use Rattle.grammar.proofs.Places.{faults_inside}
use Rattle.grammar.proofs.laws.faults_stand_inside.Goals as goal

pub returns : goal.returns
returns c = faults_inside
