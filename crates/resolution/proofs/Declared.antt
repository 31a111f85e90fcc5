-- Goals and cells name only cells in use, and each step's rule and cells are there. Assumes nothing.
use Rattle.std.proofs.Common.{◌≡◌, ℕ, zero, suc, ◌+◌, ◌<◌, ◌≤◌, List, [], ◌∷◌, ◌++◌, map, length, sym, subst, arith}
use Rattle.terms.specs.Terms.{Term, Rule, Query}
use Rattle.unification.specs.Variables.{AllWithin, shifted}
use Rattle.unification.specs.Substitutions.{apply}
use Rattle.unification.proofs.Variables.{within_more, all_within_more, all_within_append, all_within_map, within_shifted}
use Rattle.unification.proofs.Within.{KeepsWithin, unify_keeps_within}
use Rattle.resolution.specs.Rules.{rule, Closed, AllClosed}
use Rattle.resolution.specs.Cells.{fresh}
use Rattle.resolution.specs.Lines.{Step}
use Rattle.resolution.proofs.Cells.{fresh_length, fresh_within, stepped, step_length}
use Rattle.resolution.proofs.Sessions.{Stays}

pub rule_closed : (rs : List Rule) (i : ℕ) → AllClosed rs → Closed (rule rs i)
rule_closed [] i h = (tt, tt)
rule_closed (r ∷ rs) zero h = h.0
rule_closed (r ∷ rs) (suc i) h = rule_closed rs i h.1

-- each step's rule is there, and its cells are among the first n
abbrev pub Inside : List Rule → ℕ → List Step → Type 0
Inside rs n [] = Unit {0}
Inside rs n (f ∷ fs) = (f.rule < length rs) × (length f.cells + (rule rs f.rule).variables ≤ n) × Inside rs n fs

inside_more : (rs : List Rule) (n m : ℕ) → n ≤ m → (fs : List Step) → Inside rs n fs → Inside rs m fs
inside_more rs n m l [] h = tt
inside_more rs n m l (f ∷ fs) h = (h.0, omega (arith, h.1, l), inside_more rs n m l fs h.2)

pub record Tidy (rs : List Rule) (q : Query) (goals cells : List Term) (fs : List Step) : Type 0 where
  pub wide : q.variables ≤ length cells
  pub goals_within : AllWithin (length cells) goals
  pub cells_within : AllWithin (length cells) cells
  pub inside : Inside rs (length cells) fs

pub tidy_stays : (rs : List Rule) (q : Query) → AllClosed rs → Stays rs (Tidy rs q)
tidy_stays rs q cl g rest due cells fs σ l s e o =
    record {
      wide = omega (arith, len, o.wide);
      goals_within = subst (λ (k : ℕ). AllWithin k (map (apply σ) (map (shifted n) r.goals ++ rest))) (sym len)
          (all_within_map N N (apply σ) keeps (map (shifted n) r.goals ++ rest)
          (all_within_append N (map (shifted n) r.goals) rest (all_within_map v N (shifted n) (within_shifted n v) r.goals c.1) (all_within_more n N (omega arith) rest o.goals_within.1)));
      cells_within = subst (λ (k : ℕ). AllWithin k (stepped σ cells v)) (sym len)
          (all_within_map N N (apply σ) keeps (cells ++ fresh n v)
          (all_within_append N cells (fresh n v) (all_within_more n N (omega arith) cells o.cells_within) (fresh_within n v N (omega arith))));
      inside = (l, omega (arith, len), inside_more rs n (length (stepped σ cells v)) (omega (arith, len)) fs o.inside);
    }
  where
    n : ℕ
    n = length cells

    r : Rule
    r = rule rs due

    v : ℕ
    v = r.variables

    N : ℕ
    N = n + v

    c : Closed r
    c = rule_closed rs due cl

    len : length (stepped σ cells v) ≡ N
    len = step_length σ cells v

    keeps : KeepsWithin N σ
    keeps = unify_keeps_within N (shifted n r.head) g σ e (within_shifted n v r.head c.0) (within_more n N (omega arith) g o.goals_within.0)

pub tidy_opening : (rs : List Rule) (q : Query) → AllWithin q.variables q.goals → Tidy rs q q.goals (fresh 0 q.variables) []
tidy_opening rs q h =
    record {
      wide = omega (arith, fresh_length 0 q.variables);
      goals_within = subst (λ (k : ℕ). AllWithin k q.goals) (sym (fresh_length 0 q.variables)) h;
      cells_within = subst (λ (k : ℕ). AllWithin k (fresh 0 q.variables)) (sym (fresh_length 0 q.variables)) (fresh_within 0 q.variables q.variables (omega arith));
      inside = tt;
    }
