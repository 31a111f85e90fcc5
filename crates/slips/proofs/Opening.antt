-- What is known of the rules and the query that a search was opened with. Assumes nothing.
use Rattle.std.proofs.Common.{◌≡◌, ℕ, ◌+◌, ◌≤◌, leb, List, [], ◌∷◌, map, length, Ok, sym, ap, ◌∙◌, subst, arith}
use lib.ListN.{length-map}
use Rattle.std.proofs.lemmas.Bool.{leb-true}
use Rattle.terms.specs.Terms.{Rule, Query}
use Rattle.grammar.specs.Singles.{rule, query}
use Rattle.grammar.specs.Items.{most_bytes, most_rules}
use Rattle.grammar.specs.Encodings.{FitRule, FitQuery}
use Rattle.grammar.proofs.Framed.{ask_yes, go_yes}
use Rattle.grammar.proofs.Alone.{rules_inverse, queries_inverse}
use Rattle.resolution.specs.Rules.{AllClosed, WellDeclared}
use Rattle.resolution.specs.Limits.{cell_limit, step_limit}
use Rattle.resolution.proofs.Within.{within_limits}
use Rattle.resolution.proofs.Sessions.{all_kept}
use Rattle.resolution.proofs.Steps.{Fitting, fitting_stays, fitting_opening}
use Rattle.slips.specs.declared.faults.OpeningFault.TheVariants.{InQuery, TooManyRules, TooManyBytes}
use Rattle.grammar.specs.Texts.{total}
use Rattle.slips.specs.Opening.{rule_or_none, rules_in, AllRules, Opened}
use Rattle.slips.specs.Checker.{no_number}
use Rattle.slips.specs.Runs.{Request}
use Rattle.slips.specs.Laws.{Opens}
use Rattle.slips.proofs.Passing.{fits_within, all_fits_within}
use Rattle.slips.proofs.Atoms.{fits_small, all_fits_small, small_fresh, SmallRules, SmallPlace, small_stays}
use Rattle.slips.proofs.Own.{Ready}
use Rattle.slips.proofs.Runs.{move, met}

abbrev FitRules : List Rule → Type 0
FitRules [] = Unit {0}
FitRules (r ∷ rs) = FitRule r × FitRules rs

rules_fit : (texts : List (List ℕ)) → AllRules texts → FitRules (rules_in texts)
rules_fit [] h = tt
rules_fit (bs ∷ texts) (a, (r, e), h) = (subst FitRule (ap rule_or_none (sym e)) (rules_inverse.only_encodings bs r a e).0, rules_fit texts h)

fit_closed : (rs : List Rule) → FitRules rs → AllClosed rs
fit_closed [] h = tt
fit_closed (r ∷ rs) h =
    ((fits_within r.variables r.head h.0.declared.0, all_fits_within r.variables r.goals h.0.declared.1), fit_closed rs h.1)

fit_small : (rs : List Rule) → FitRules rs → SmallRules rs
fit_small [] h = tt
fit_small (r ∷ rs) h =
    ((fits_small r.variables r.head h.0.declared.0, all_fits_small r.variables r.goals h.0.declared.1), fit_small rs h.1)

-- what opening asked
pub record Asked (texts : List (List ℕ)) (bs : List ℕ) (o : Opened) : Type 0 where
  pub query_is : query bs ≡ Ok o.query
  pub rules_are : o.rules ≡ rules_in texts
  pub few_rules : length texts ≤ most_rules

pub asked_of : (texts : List (List ℕ)) (bs : List ℕ) (o : Opened) → Opens texts bs o → Asked texts bs o
asked_of texts bs o h =
    let a = go_yes (query bs) InQuery _ o h.opens in
    let b = ask_yes (leb (length texts) most_rules) TooManyRules _ o a.2 in
    let c = ask_yes (leb (total texts + length bs) most_bytes) TooManyBytes _ o b.1 in
    let same : record { rules = rules_in texts; query = a.0 } ≡ o = (let e = c.1 in cc) in
    record {
      query_is = a.1 ∙ ap (λ (o : Opened). Ok o.query) same;
      rules_are = sym (ap (λ (o : Opened). o.rules) same);
      few_rules = leb-true (length texts) most_rules b.0;
    }

module _ (texts : List (List ℕ)) (bs : List ℕ) (o : Opened) (h : Opens texts bs o) where
  asked : Asked texts bs o
  asked = asked_of texts bs o h

  pub query_read : query bs ≡ Ok o.query
  query_read = asked.query_is

  query_fit : FitQuery o.query
  query_fit = (queries_inverse.only_encodings bs o.query h.bytes query_read).0

  fit : FitRules o.rules
  fit = subst FitRules (sym asked.rules_are) (rules_fit texts h.each)

  pub few : length o.rules ≤ no_number
  few = omega (arith, asked.few_rules, ap length asked.rules_are, length-map texts (λ (bs : List ℕ). rule_or_none (rule bs)))

  pub well_declared : WellDeclared o.rules o.query
  well_declared = (fit_closed o.rules fit, all_fits_within o.query.variables o.query.goals query_fit.declared)

  -- at every moment the place is ready
  pub ready : (calls : List Request) → Ready o.rules o.query (met o calls).search.place
  ready calls =
      record {
        tidy = kept.tidy;
        resolved = kept.resolved;
        small = (all_kept o.rules SmallPlace (small_stays o.rules (fit_small o.rules fit)) o.query
            (all_fits_small o.query.variables o.query.goals query_fit.declared, small_fresh 0 o.query.variables) (map move calls)).now_kept.0.1;
        few_steps = limits.0;
        few_cells = limits.1;
      }
    where
      rs : List Rule
      rs = o.rules

      q : Query
      q = o.query

      kept : Fitting rs well_declared.0 q (met o calls).search.place.goals (met o calls).search.place.cells (met o calls).search.place.branch
      kept =
          (all_kept rs (Fitting rs well_declared.0 q) (fitting_stays rs well_declared.0 q well_declared.1) q (fitting_opening rs well_declared.0 q well_declared.1) (map move calls)
          ).now_kept.0

      limits : (length (met o calls).search.place.branch ≤ step_limit) × (length (met o calls).search.place.cells ≤ cell_limit)
      limits = within_limits rs q (omega (arith, query_fit.few_variables)) (map move calls)
