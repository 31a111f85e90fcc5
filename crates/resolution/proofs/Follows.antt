-- Lists of ground terms that follow. Assumes nothing.
use Rattle.std.proofs.Common.{List, [], ◌∷◌, ◌++◌}
use Rattle.terms.specs.Terms.{Rule}
use Rattle.unification.specs.Ground.{Ground}
use Rattle.resolution.specs.Follows.{Follows, AllFollow, no_goal, each_goal}

module _ {rs : List Rule} where
  pub first_follows : {g : Ground} {gs : List Ground} → AllFollow rs (g ∷ gs) → Follows rs g
  first_follows (each_goal f a) = f

  pub others_follow : {g : Ground} {gs : List Ground} → AllFollow rs (g ∷ gs) → AllFollow rs gs
  others_follow (each_goal f a) = a

  pub left_follow : (gs hs : List Ground) → AllFollow rs (gs ++ hs) → AllFollow rs gs
  left_follow [] hs a = no_goal
  left_follow (g ∷ gs) hs a = each_goal (first_follows a) (left_follow gs hs (others_follow a))

  pub right_follow : (gs hs : List Ground) → AllFollow rs (gs ++ hs) → AllFollow rs hs
  right_follow [] hs a = a
  right_follow (g ∷ gs) hs a = right_follow gs hs (others_follow a)

  pub append_follow : (gs hs : List Ground) → AllFollow rs gs → AllFollow rs hs → AllFollow rs (gs ++ hs)
  append_follow [] hs a b = b
  append_follow (g ∷ gs) hs a b = each_goal (first_follows a) (append_follow gs hs (others_follow a) b)
