use Rattle.std.proofs.Common.{◌≡◌, take}
use Rattle.outcomes.proofs.first_difference.Given as goal

-- the lists are the same as far as they were looked at
abbrev pub invariant-loop-place : goal.invariant-loop-place
invariant-loop-place l = take l.place l.found ≡ take l.place l.stored
