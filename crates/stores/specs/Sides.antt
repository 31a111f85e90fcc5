-- Which of two stores has a rule, where one lies over the other. Assumes nothing.
use Rattle.std.specs.Prelude.{ℕ, ◌-◌, cond, Some, None, Option, nat_lt}
use Rattle.stores.specs.Answers.{no_number}
use Rattle.stores.specs.declared.piles.Side.{Side}
use Rattle.stores.specs.declared.piles.Side.TheVariants.{Upper, Lower}

-- the upper one counts n rules
abbrev pub side_of : ℕ → ℕ → Option Side
side_of n i = cond (nat_lt i no_number) (Some (cond (nat_lt i n) (Upper i) (Lower (i - n)))) None
