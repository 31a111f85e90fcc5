-- The numbers that limit a listing. Assumes nothing.
use Rattle.std.specs.Prelude.{ℕ}

-- tries that each call is allowed
abbrev pub allowance : ℕ
allowance = 1000

-- calls
abbrev pub call_limit : ℕ
call_limit = 100

-- bytes of a slip
abbrev pub slip_room : ℕ
slip_room = 32768
