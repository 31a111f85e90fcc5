-- A slip that passes claims only replacements that follow. Assumes nothing.
use Rattle.std.proofs.Common.{◌≡◌, ℕ, zero, suc, ◌+◌, ◌<◌, true, ltb, List, [], ◌∷◌, ◌++◌, map, length, drop, Ok, Err, Result, sym, refl, ap, ◌∙◌, subst, ap₂, arith}
use Rattle.std.proofs.lemmas.Bool.{eqb-true, ltb-true, and_parts}
use Rattle.terms.specs.Terms.{Term, var, atom, pair, Rule, Query}
use Rattle.terms.specs.Bytes.{Fits, AllFit}
use Rattle.grammar.specs.declared.faults.RuleFault.TheVariants.{Command}
use Rattle.grammar.specs.Asking.{ask, go}
use Rattle.grammar.specs.Singles.{query}
use Rattle.grammar.proofs.Framed.{ask_yes, go_yes}
use Rattle.grammar.proofs.Alone.{queries_inverse}
use Rattle.unification.specs.Ground.{ground_pair, Replacement, replaced, all_replaced}
use Rattle.unification.specs.Variables.{Within, AllWithin}
use Rattle.unification.proofs.Ground.{all_replaced_append}
use Rattle.resolution.specs.Rules.{rule}
use Rattle.resolution.specs.Cells.{cell, present}
use Rattle.resolution.specs.Follows.{by_rule, AllFollow, no_goal, each_goal, QueryFollows, Covers}
use Rattle.resolution.specs.Limits.{step_limit}
use Rattle.resolution.proofs.Follows.{left_follow, right_follow}
use Rattle.resolution.proofs.Cells.{replaced_as, map_same, map_map}
use Rattle.slips.specs.declared.faults.SlipFault.TheVariants.{Reading, Opening, NoStep, TooManySteps, NoRule, OtherGoal}
use Rattle.slips.specs.declared.faults.CheckFault.{CheckFault}
use Rattle.slips.specs.declared.faults.CheckFault.TheVariants.{InQuery, InSlip}
use Rattle.slips.specs.Slips.{step_byte}
use Rattle.slips.specs.Checker.{terms_at, begins, opens, step_operands, step_size, has_rule, same, step, steps, Claimed}
use Rattle.slips.specs.Laws.{WhatPassesFollows}

-- terms that are found the same are equal
pub same_equal : (s t : Term) → same s t ≡ true → s ≡ t
same_equal (var x) (var y) e = ap var (eqb-true x y e)
same_equal (var x) (atom b) e = let z : ◌≡◌ {A = ℕ} 0 1 = cc in absurd (omega arith)
same_equal (var x) (pair u w) e = let z : ◌≡◌ {A = ℕ} 0 1 = cc in absurd (omega arith)
same_equal (atom a) (var y) e = let z : ◌≡◌ {A = ℕ} 0 1 = cc in absurd (omega arith)
same_equal (atom a) (atom b) e = ap atom (eqb-true a b e)
same_equal (atom a) (pair u w) e = let z : ◌≡◌ {A = ℕ} 0 1 = cc in absurd (omega arith)
same_equal (pair s t) (var y) e = let z : ◌≡◌ {A = ℕ} 0 1 = cc in absurd (omega arith)
same_equal (pair s t) (atom b) e = let z : ◌≡◌ {A = ℕ} 0 1 = cc in absurd (omega arith)
same_equal (pair s t) (pair u w) e =
    let p = and_parts (same s u) (same t w) e in ap₂ pair (same_equal s u p.0) (same_equal t w p.1)

-- a replacement of a term under the terms of a step
replaced_under : (γ : Replacement) (ts : List Term) (t : Term) → replaced γ (present ts t) ≡ replaced (λ x. replaced γ (cell ts x)) t
replaced_under γ ts (var x) = refl
replaced_under γ ts (atom a) = refl
replaced_under γ ts (pair s t) = ap₂ ground_pair (replaced_under γ ts s) (replaced_under γ ts t)

all_under : (γ : Replacement) (ts us : List Term) → all_replaced γ (map (present ts) us) ≡ all_replaced (λ x. replaced γ (cell ts x)) us
all_under γ ts [] = refl
all_under γ ts (u ∷ us) = ap₂ ◌∷◌ (replaced_under γ ts u) (all_under γ ts us)

-- what a step that passes is: its rule is there, its head is the goal, and what follows passes
pub record Passed (rs : List Rule) (g : Term) (more : List Term → ℕ → Result Unit CheckFault) : Type 0 where
  pub number : ℕ
  pub terms : List Term
  pub place : ℕ
  pub there : number < length rs
  pub head_is : present terms (rule rs number).head ≡ g
  pub onward : more (map (present terms) (rule rs number).goals) place ≡ Ok tt

pub step_passed : (rs : List Rule) (slip : List ℕ) (n p : ℕ) (g : Term) (more : List Term → ℕ → Result Unit CheckFault) → step rs slip n p g more ≡ Ok tt → Passed rs g more
step_passed rs slip n p g more e =
    let a = ask_yes (begins step_byte (drop p slip)) (InSlip (NoStep p) n) _ tt e in
    let b = go_yes (step_operands p (drop (suc p) slip)) (λ e. InSlip (Reading (Command e)) n) _ tt a.1 in
    let i : ℕ = b.0.0 in
    let v : ℕ = b.0.1 in
    let c = ask_yes (ltb n step_limit) (InSlip (TooManySteps p) n) _ tt b.2 in
    let d = ask_yes (has_rule rs i v) (InSlip (NoRule p) n) _ tt c.1 in
    let f = go_yes (terms_at v (p + step_size) slip) (λ e. InSlip (Reading e) n) _ tt d.1 in
    let h = ask_yes (same (present f.0.0 (rule rs i).head) g) (InSlip (OtherGoal p) n) _ tt f.2 in
    record {
      number = i;
      terms = f.0.0;
      place = f.0.1;
      there = ltb-true i (length rs) (and_parts (ltb i (length rs)) _ d.0).0;
      head_is = same_equal (present f.0.0 (rule rs i).head) g h.0;
      onward = h.1;
    }

-- under every replacement the goals that a passing slip goes on from follow
module _ (rs : List Rule) (γ : Replacement) where
  first_of : (g : Term) (goals : List Term) (i : ℕ) (ts : List Term) → i < length rs → present ts (rule rs i).head ≡ g
      → AllFollow rs (all_replaced γ (map (present ts) (rule rs i).goals ++ goals)) → AllFollow rs (all_replaced γ (g ∷ goals))
  first_of g goals i ts l e a =
      let both = subst (AllFollow rs) (all_replaced_append γ (map (present ts) (rule rs i).goals) goals) a in
      each_goal
      (by_rule i (λ x. replaced γ (cell ts x)) l (ap (replaced γ) (sym e) ∙ replaced_under γ ts (rule rs i).head)
      (subst (AllFollow rs) (all_under γ ts (rule rs i).goals) (left_follow (all_replaced γ (map (present ts) (rule rs i).goals)) (all_replaced γ goals) both)))
      (right_follow (all_replaced γ (map (present ts) (rule rs i).goals)) (all_replaced γ goals) both)

  pub steps_follow : (slip : List ℕ) (left n p : ℕ) (goals : List Term) → steps rs slip left n p goals ≡ Ok tt → AllFollow rs (all_replaced γ goals)
  steps_follow slip left n p [] e = no_goal
  steps_follow slip zero n p (g ∷ goals) e =
      let k = step_passed rs slip n p g (λ own q. Err (InSlip (TooManySteps p) n)) e in
      let z : ◌≡◌ {A = ℕ} 0 1 = (let h = k.onward in cc) in absurd (omega arith)
  steps_follow slip (suc left) n p (g ∷ goals) e =
      let k = step_passed rs slip n p g (λ own q. steps rs slip left (suc n) q (own ++ goals)) e in
      first_of g goals k.number k.terms k.there k.head_is
      (steps_follow slip left (suc n) k.place (map (present k.terms) (rule rs k.number).goals ++ goals) k.onward)

-- terms that fit name no variable beyond the bound
pub fits_within : (v : ℕ) (t : Term) → Fits v t → Within v t
fits_within v (var x) h = h
fits_within v (atom a) h = tt
fits_within v (pair s t) h = (fits_within v s h.0, fits_within v t h.1)

pub all_fits_within : (v : ℕ) (ts : List Term) → AllFit v ts → AllWithin v ts
all_fits_within v [] h = tt
all_fits_within v (t ∷ ts) h = (fits_within v t h.0, all_fits_within v ts h.1)

-- the query's goals under the first terms are the goals under any replacement that these become
claimed_goals : (rs : List Rule) (q : Query) (ts : List Term) (θ : Replacement) → AllWithin q.variables q.goals → (c : Covers q.variables ts θ)
    → AllFollow rs (all_replaced c.0 (map (present ts) q.goals)) → QueryFollows rs q θ
claimed_goals rs q ts θ w (γ, agrees) a =
    subst (AllFollow rs)
    (map_map (replaced γ) (present ts) q.goals
    ∙ map_same q.variables (λ t. replaced γ (present ts t)) (replaced θ) (replaced_as γ θ ts q.variables agrees) q.goals w) a

-- a slip passed for a query that was read
abbrev passed_for : List Rule → List ℕ → Query → Result Unit CheckFault
passed_for rs slip q =
    ask (opens q.variables slip) (InSlip Opening 0)
    (go (terms_at q.variables 2 slip) (λ e. InSlip (Reading e) 0) (λ t. steps rs slip step_limit 0 t.1 (map (present t.0) q.goals)))

pub what_passes_follows : WhatPassesFollows
what_passes_follows rs bs q a e slip passes θ claims =
    let b = go_yes (query bs) InQuery (passed_for rs slip) tt passes in
    let passing = subst (λ (q : Query). passed_for rs slip q ≡ Ok tt) (let k = b.1 in cc) b.2 in
    let c = ask_yes (opens q.variables slip) (InSlip Opening 0) _ tt passing in
    let d = go_yes (terms_at q.variables 2 slip) (λ e. InSlip (Reading e) 0) _ tt c.1 in
    let covers : Covers q.variables d.0.0 θ = subst (λ r. Claimed q.variables r θ) d.1 claims in
    claimed_goals rs q d.0.0 θ (all_fits_within q.variables q.goals (queries_inverse.only_encodings bs q a e).0.declared) covers
    (steps_follow rs covers.0 slip step_limit 0 d.0.1 (map (present d.0.0) q.goals) d.2)
