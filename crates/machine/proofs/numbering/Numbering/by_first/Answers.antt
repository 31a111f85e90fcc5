use Rattle.std.proofs.Common.{◌≡◌, ℕ, zero, suc, List, [], ◌∷◌, map, replicate, Option, None, refl, ap, ◌∙◌, sym, subst}
use Rattle.slips.specs.Numberings.{Numbers}
use Rattle.slips.proofs.Numberings.{numbers_none}
use Rattle.machine.specs.Numberings.{number_of}
use Rattle.machine.proofs.numbering.Numbering.by_first.Goals as goal

none_of : (n : ℕ) → map number_of (replicate n 0) ≡ replicate n None
none_of zero = refl
none_of (suc n) = ap (λ (os : List (Option ℕ)). None ∷ os) (none_of n)

pub returns : goal.returns
returns c = λ used h. record { so = subst (λ (os : List (Option ℕ)). Numbers os 0 used []) (sym (none_of 2048)) (numbers_none 2048 used h) }
