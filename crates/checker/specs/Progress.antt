-- The tables of a check in progress. Assumes nothing.
use Rattle.std.specs.Prelude.{[]}
use Rattle.comparing.specs.Stages.{Tables}
use Rattle.checker.specs.declared.progress.Progress.{Progress}

abbrev pub tables : Progress → Tables
tables w = record { table = w.table.items; frames = w.frames.items; place = w.place; steps = w.steps }

-- nothing is read yet
abbrev pub fresh : Tables
fresh = record { table = []; frames = []; place = 0; steps = 0 }
