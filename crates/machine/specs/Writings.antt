-- What is written of where a search stands. Assumes nothing.
use Rattle.slips.specs.Slips.{Slip, slip_of}
use Rattle.machine.specs.States.{State, rules_of, query_of, place_of}

-- the slip of where it stands
abbrev pub slip_at : State → Slip
slip_at s = slip_of (rules_of s) (query_of s) (place_of s)
