-- Steps and cells in use keep within their limits. Assumes nothing.
use Rattle.std.proofs.Common.{◌-◌, ◌<◌, ◌≤◌, ltb, leb, List, ◌∷◌, length, subst, arith, nltb→le}
use mathlib.Core.Option.{Option, none, some}
use lib.Dec.{nleb→lt}
use Rattle.terms.specs.Terms.{Term, Rule}
use Rattle.unification.proofs.Choice.{cond_by}
use Rattle.resolution.specs.declared.Stop.{Stop}
use Rattle.resolution.specs.Rules.{rule}
use Rattle.resolution.specs.Limits.{cell_limit, step_limit}
use Rattle.resolution.specs.Lines.{Step, Place, stop}
use Rattle.resolution.specs.Laws.{WithinLimits}
use Rattle.resolution.proofs.Sessions.{Stays, all_kept}
use Rattle.resolution.proofs.Cells.{fresh_length, step_length}

-- nothing stops a try: a step more and the rule's cells keep within the limits
abbrev Room : List Rule → Place → Option Stop → Type 0
Room rs p none = (length p.branch < step_limit) × ((rule rs p.due).variables ≤ cell_limit - length p.cells)
Room rs p (some why) = Unit {0}

pub stop_room : (rs : List Rule) (p : Place) → Room rs p (stop rs p)
stop_room rs p =
    cond_by (Room rs p) (leb step_limit (length p.branch)) (λ _. tt)
    (λ h. cond_by (Room rs p) (ltb (cell_limit - length p.cells) (rule rs p.due).variables) (λ _. tt)
    (λ k. (nleb→lt step_limit (length p.branch) h, nltb→le (cell_limit - length p.cells) (rule rs p.due).variables k)))

abbrev Limited : List Term → List Term → List Step → Type 0
Limited goals cells fs = (length fs ≤ step_limit) × (length cells ≤ cell_limit)

limited_stays : (rs : List Rule) → Stays rs Limited
limited_stays rs g rest due cells fs σ l s e h =
    let r : Room rs (record { goals = g ∷ rest; due = due; cells = cells; branch = fs }) none =
    subst (Room rs (record { goals = g ∷ rest; due = due; cells = cells; branch = fs })) s (stop_room rs (record { goals = g ∷ rest; due = due; cells = cells; branch = fs })) in
    (omega (arith, r.0), omega (arith, h.1, r.1, step_length σ cells (rule rs due).variables))

pub within_limits : WithinLimits
within_limits rs q h calls = (all_kept rs Limited (limited_stays rs) q (omega arith, omega (arith, h, fresh_length 0 q.variables)) calls).now_kept.0
