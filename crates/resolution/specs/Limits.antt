-- The numbers that limit a search, and the number of its refusal. Assumes nothing.
use Rattle.std.specs.Prelude.{ℕ}
use Rattle.resolution.specs.declared.Refusal.{Refusal}
use Rattle.resolution.specs.declared.Refusal.TheVariants.{Allowance}

-- cells
abbrev pub cell_limit : ℕ
cell_limit = 2048

-- steps of the branch
abbrev pub step_limit : ℕ
step_limit = 512

-- tries that one call may be allowed
abbrev pub allowance_limit : ℕ
allowance_limit = 1000000

-- where a count of the tally stays
abbrev pub tally_limit : ℕ
tally_limit = 4294967295

abbrev pub refusal_number : Refusal → ℕ
refusal_number Allowance = 15
