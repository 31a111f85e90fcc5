use Rattle.slips.proofs.laws.written_reads_back.Goals as goal
use Rattle.slips.proofs.Standing.{written_reads_back}

pub returns : goal.returns
returns c = written_reads_back
