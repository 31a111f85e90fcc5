use Rattle.resolution.proofs.sound.Goals as goal
use Rattle.resolution.proofs.Soundness.{sound}

pub returns : goal.returns
returns c = sound
