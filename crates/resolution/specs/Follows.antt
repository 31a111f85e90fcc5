-- What follows from rules, and what an answer covers. Assumes nothing.
use Rattle.std.specs.Prelude.{◌≡◌, ℕ, ◌<◌, List, [], ◌∷◌, length}
use Rattle.terms.specs.Terms.{Term, Rule, Query}
use Rattle.unification.specs.Ground.{Ground, Replacement, replaced, all_replaced}
use Rattle.resolution.specs.Rules.{rule}
use Rattle.resolution.specs.Cells.{cell}

-- a ground term follows in finitely many steps: it is the head of a rule under a replacement, and the rule's goals then follow
mutual
  pub data Follows (rs : List Rule) : Ground → Type 0 where
    by_rule : {g : Ground} (i : ℕ) (γ : Replacement) → i < length rs → g ≡ replaced γ (rule rs i).head
        → AllFollow rs (all_replaced γ (rule rs i).goals) → Follows rs g

  pub data AllFollow (rs : List Rule) : List Ground → Type 0 where
    no_goal : AllFollow rs []
    each_goal : {g : Ground} {gs : List Ground} → Follows rs g → AllFollow rs gs → AllFollow rs (g ∷ gs)

-- a replacement of the query's variables follows when every goal then does
abbrev pub QueryFollows : List Rule → Query → Replacement → Type 0
QueryFollows rs q θ = AllFollow rs (all_replaced θ q.goals)

-- the first n of an answer's terms, those of the query's variables, become the terms of θ when the variables left in
-- them are replaced in some way
abbrev pub Covers : ℕ → List Term → Replacement → Type 0
Covers n terms θ = (γ : Replacement) × ((k : ℕ) → k < n → replaced γ (cell terms k) ≡ θ k)
