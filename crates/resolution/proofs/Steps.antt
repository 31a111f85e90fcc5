-- At every moment each step's head equals the goal it was tried on, in present terms. Assumes nothing.
use Rattle.std.proofs.Common.{◌≡◌, ℕ, ◌+◌, ◌≤◌, List, [], ◌∷◌, ◌++◌, map, length, sym, refl, ap, ◌∙◌, subst}
use Rattle.terms.specs.Terms.{Term, Rule, Query}
use Rattle.unification.specs.Variables.{Within, AllWithin, shifted}
use Rattle.unification.specs.Substitutions.{Substitution, apply}
use Rattle.unification.proofs.Joins.{unifies}
use Rattle.unification.proofs.Variables.{within_more, all_within_more, all_within_map, within_shifted}
use Rattle.resolution.specs.Rules.{rule, Closed, AllClosed}
use Rattle.resolution.specs.Cells.{fresh, present}
use Rattle.resolution.specs.Lines.{Step}
use Rattle.resolution.specs.Laws.{own_head, own_goals, Resolved, StepsFit}
use Rattle.resolution.proofs.Cells.{stepped, present_kept, present_new, present_fresh, map_same, map_map, map-append}
use Rattle.resolution.proofs.Declared.{rule_closed, Inside, Tidy, tidy_stays, tidy_opening}
use Rattle.resolution.proofs.Sessions.{Stays, all_kept}

-- mapping σ over present terms is taking the present terms after the step
presents_kept : (σ : Substitution) (cells : List Term) (v : ℕ) (ts : List Term) → AllWithin (length cells) ts
    → map (apply σ) (map (present cells) ts) ≡ map (present (stepped σ cells v)) ts
presents_kept σ cells v ts h =
    map_map (apply σ) (present cells) ts
    ∙ sym (map_same (length cells) (present (stepped σ cells v)) (λ t. apply σ (present cells t)) (present_kept σ cells v) ts h)

map_itself : (ts : List Term) → map (λ (t : Term). t) ts ≡ ts
map_itself [] = refl
map_itself (t ∷ ts) = ap (λ (l : List Term). t ∷ l) (map_itself ts)

module _ (rs : List Rule) (cl : AllClosed rs) (q : Query) where
  own_within : (n : ℕ) (f : Step) → length f.cells + (rule rs f.rule).variables ≤ n → (t : Term) → Within (rule rs f.rule).variables t → Within n (shifted (length f.cells) t)
  own_within n f l t h =
      within_more (length f.cells + (rule rs f.rule).variables) n l (shifted (length f.cells) t) (within_shifted (length f.cells) (rule rs f.rule).variables t h)

  -- a further step keeps how the goals came from the query's
  resolved_kept : (σ : Substitution) (cells : List Term) (v : ℕ) → AllWithin (length cells) q.goals → (fs : List Step) (goals : List Term) → Inside rs (length cells) fs
      → Resolved rs q cells fs goals → Resolved rs q (stepped σ cells v) fs (map (apply σ) goals)
  resolved_kept σ cells v w [] goals i e = ap (map (apply σ)) e ∙ presents_kept σ cells v q.goals w
  resolved_kept σ cells v w (f ∷ fs) goals i (rest, e, r) =
      (map (apply σ) rest, goals_kept, subst (λ (t : Term). Resolved rs q (stepped σ cells v) fs (t ∷ map (apply σ) rest)) head_kept (resolved_kept σ cells v w fs (own_head rs cells f ∷ rest) i.2 r))
    where
      c : Closed (rule rs f.rule)
      c = rule_closed rs f.rule cl

      head_kept : apply σ (own_head rs cells f) ≡ own_head rs (stepped σ cells v) f
      head_kept = sym (present_kept σ cells v (shifted (length f.cells) (rule rs f.rule).head) (own_within (length cells) f i.1 (rule rs f.rule).head c.0))

      goals_kept : map (apply σ) goals ≡ own_goals rs (stepped σ cells v) f ++ map (apply σ) rest
      goals_kept =
          ap (map (apply σ)) e
          ∙ map-append (apply σ) (own_goals rs cells f) rest
          ∙ ap (λ (l : List Term). l ++ map (apply σ) rest)
          (presents_kept σ cells v (map (shifted (length f.cells)) (rule rs f.rule).goals)
          (all_within_map (rule rs f.rule).variables (length cells) (shifted (length f.cells)) (own_within (length cells) f i.1) (rule rs f.rule).goals c.1))

  pub record Fitting (goals cells : List Term) (fs : List Step) : Type 0 where
    pub tidy : Tidy rs q goals cells fs
    pub resolved : Resolved rs q cells fs goals

  module _ (bq : AllWithin q.variables q.goals) where
    pub fitting_stays : Stays rs Fitting
    fitting_stays g rest due cells fs σ l s e o =
        record {
          tidy = tidy_stays rs q cl g rest due cells fs σ l s e o.tidy;
          resolved = (
            map (apply σ) rest,
            goals_now,
            subst (λ (t : Term). Resolved rs q (stepped σ cells v) fs (t ∷ map (apply σ) rest)) head_now
                (resolved_kept σ cells v (all_within_more q.variables (length cells) o.tidy.wide q.goals bq) fs (g ∷ rest) o.tidy.inside o.resolved),
          );
        }
      where
        n : ℕ
        n = length cells

        r : Rule
        r = rule rs due

        v : ℕ
        v = r.variables

        c : Closed r
        c = rule_closed rs due cl

        head_now : apply σ g ≡ present (stepped σ cells v) (shifted n r.head)
        head_now = sym (present_new σ cells v r.head c.0 ∙ unifies (shifted n r.head) g σ e)

        goals_now : map (apply σ) (map (shifted n) r.goals ++ rest) ≡ map (present (stepped σ cells v)) (map (shifted n) r.goals) ++ map (apply σ) rest
        goals_now =
            map-append (apply σ) (map (shifted n) r.goals) rest
            ∙ ap (λ (l : List Term). l ++ map (apply σ) rest)
            (map_map (apply σ) (shifted n) r.goals
            ∙ sym (map_same v (λ t. present (stepped σ cells v) (shifted n t)) (λ t. apply σ (shifted n t)) (present_new σ cells v) r.goals c.1)
            ∙ sym (map_map (present (stepped σ cells v)) (shifted n) r.goals))

    pub fitting_opening : Fitting q.goals (fresh 0 q.variables) []
    fitting_opening =
        record {
          tidy = tidy_opening rs q bq;
          resolved = sym (map_same q.variables (present (fresh 0 q.variables)) (λ t. t) (present_fresh q.variables) q.goals bq ∙ map_itself q.goals);
        }

pub steps_fit : StepsFit
steps_fit rs q d calls =
    (all_kept rs (Fitting rs d.0 q) (fitting_stays rs d.0 q d.1) q (fitting_opening rs d.0 q d.1) calls).now_kept.0.resolved
