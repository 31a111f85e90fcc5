-- What a contract sees of the text. Assumes nothing.
use Rattle.std.specs.Prelude.{ℕ, List}

-- the bytes, in order
pub record Text : Type 0 where
  pub bytes : List ℕ
