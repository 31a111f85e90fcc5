-- Every replacement that an answer covers follows. Assumes nothing.
use Rattle.std.proofs.Common.{◌≡◌, ℕ, ◌+◌, List, [], ◌∷◌, ◌++◌, map, length, sym, refl, ap, ◌∙◌, subst, ap₂}
use Rattle.terms.specs.Terms.{Term, Rule, Query}
use Rattle.unification.specs.Variables.{shifted}
use Rattle.unification.specs.Ground.{Replacement, replaced, all_replaced}
use Rattle.unification.proofs.Ground.{all_replaced_append}
use Rattle.resolution.specs.Rules.{rule, WellDeclared}
use Rattle.resolution.specs.Follows.{by_rule, AllFollow, no_goal, each_goal, QueryFollows, Covers}
use Rattle.resolution.specs.Cells.{cell, present}
use Rattle.resolution.specs.Lines.{Step, Place}
use Rattle.resolution.specs.Laws.{Each, own_head, own_goals, Resolved, Sound}
use Rattle.resolution.proofs.Follows.{left_follow, right_follow}
use Rattle.resolution.proofs.Cells.{replaced_present, replaced_as, map_same, map_map}
use Rattle.resolution.proofs.Declared.{Inside}
use Rattle.resolution.proofs.Sessions.{Stands, all_kept}
use Rattle.resolution.proofs.Steps.{Fitting, fitting_stays, fitting_opening}

own_replaced : (γ : Replacement) (cells : List Term) (n : ℕ) (ts : List Term)
    → all_replaced γ (map (present cells) (map (shifted n) ts)) ≡ all_replaced (λ x. replaced γ (cell cells (n + x))) ts
own_replaced γ cells n [] = refl
own_replaced γ cells n (t ∷ ts) = ap₂ ◌∷◌ (replaced_present γ cells n t) (own_replaced γ cells n ts)

-- where the goals that remain follow, the query's do, by the steps
pub resolved_follows : (rs : List Rule) (q : Query) (cells : List Term) (γ : Replacement) (n : ℕ) (fs : List Step) (goals : List Term) → Inside rs n fs → Resolved rs q cells fs goals
    → AllFollow rs (all_replaced γ goals) → AllFollow rs (all_replaced γ (map (present cells) q.goals))
resolved_follows rs q cells γ n [] goals i e a = subst (λ (l : List Term). AllFollow rs (all_replaced γ l)) e a
resolved_follows rs q cells γ n (f ∷ fs) goals i (rest, e, r) a =
    resolved_follows rs q cells γ n fs (own_head rs cells f ∷ rest) i.2 r
    (each_goal (by_rule f.rule δ i.0 (replaced_present γ cells (length f.cells) (rule rs f.rule).head) own) others)
  where
    δ : Replacement
    δ x = replaced γ (cell cells (length f.cells + x))

    both : AllFollow rs (all_replaced γ (own_goals rs cells f) ++ all_replaced γ rest)
    both = subst (AllFollow rs) (ap (all_replaced γ) e ∙ all_replaced_append γ (own_goals rs cells f) rest) a

    own : AllFollow rs (all_replaced δ (rule rs f.rule).goals)
    own = subst (AllFollow rs) (own_replaced γ cells (length f.cells) (rule rs f.rule).goals) (left_follow (all_replaced γ (own_goals rs cells f)) (all_replaced γ rest) both)

    others : AllFollow rs (all_replaced γ rest)
    others = right_follow (all_replaced γ (own_goals rs cells f)) (all_replaced γ rest) both

each_map : (P Q : Place → Type 0) → ((p : Place) → P p → Q p) → (ps : List Place) → Each P ps → Each Q ps
each_map P Q f [] h = tt
each_map P Q f (p ∷ ps) h = (f p h.0, each_map P Q f ps h.1)

module _ (rs : List Rule) (q : Query) (d : WellDeclared rs q) where
  covered_follows : (p : Place) → p.goals ≡ [] → Fitting rs d.0 q p.goals p.cells p.branch → (θ : Replacement) → Covers q.variables p.cells θ → QueryFollows rs q θ
  covered_follows p e o θ (γ, agrees) =
      subst (AllFollow rs)
      (map_map (replaced γ) (present p.cells) q.goals
      ∙ map_same q.variables (λ t. replaced γ (present p.cells t)) (replaced θ) (replaced_as γ θ p.cells q.variables agrees) q.goals d.1)
      (resolved_follows rs q p.cells γ (length p.cells) p.branch p.goals o.tidy.inside o.resolved
      (subst (λ (l : List Term). AllFollow rs (all_replaced γ l)) (sym e) no_goal))

pub sound : Sound
sound rs q d calls =
    each_map (Stands rs (Fitting rs d.0 q) (fitting_stays rs d.0 q d.1)) (λ (p : Place). (θ : Replacement) → Covers q.variables p.cells θ → QueryFollows rs q θ)
    (λ p h. covered_follows rs q d p h.0 h.1.0) _
    (all_kept rs (Fitting rs d.0 q) (fitting_stays rs d.0 q d.1) q (fitting_opening rs d.0 q d.1) calls).given_kept
