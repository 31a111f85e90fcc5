-- The checker, from its first question to its last. Assumes nothing.
use Rattle.std.proofs.Common.{◌≡◌, ℕ, zero, suc, ◌-◌, ◌≤◌, Bool, true, false, List, [], ◌∷◌, ◌++◌, map, length, drop, Ok, Err, Result, Some, sym, refl, ap, ◌∙◌, subst, arith}
use Rattle.terms.specs.Terms.{Term, Rule, Query}
use Rattle.std.specs.Result.{MatchResult, IsErrAnd}
use Rattle.std.proofs.lemmas.Result.{err_from_is_err_and}
use Rattle.terms.specs.declared.Form.TheVariants.{Rules}
use Rattle.terms.specs.Bytes.{encodings, AllFit}
use Rattle.grammar.specs.declared.faults.RuleFault.{RuleFault}
use Rattle.grammar.specs.declared.faults.SingleFault.{SingleFault}
use Rattle.grammar.specs.Asking.{ask, go}
use Rattle.grammar.specs.Encodings.{AllBytes, FitQuery}
use Rattle.grammar.specs.Singles.{query}
use Rattle.grammar.specs.Texts.{all_fit}
use Rattle.grammar.proofs.Alone.{queries_inverse}
use Rattle.reading.specs.Views.{seen, QueryView, query_shown}
use Rattle.resolution.specs.Cells.{present}
use Rattle.resolution.specs.Limits.{step_limit}
use Rattle.slips.specs.declared.faults.SlipFault.{SlipFault}
use Rattle.slips.specs.declared.faults.SlipFault.TheVariants.{Reading, Opening, TooManySteps, NoEnd}
use Rattle.slips.specs.declared.faults.CheckFault.{CheckFault}
use Rattle.slips.specs.declared.faults.CheckFault.TheVariants.{InQuery, InSlip}
use Rattle.slips.specs.Slips.{end_byte}
use Rattle.slips.specs.Checker.{is_only, opens, terms_at, step, steps, check}
use Rattle.slips.specs.Opening.{rules_in}
use Rattle.comparing.specs.declared.Cursor.{Cursor}
use Rattle.comparing.specs.Parts.{closed}
use Rattle.comparing.specs.Places.{where_to}
use Rattle.comparing.specs.Stages.{Tables, with_frames, Stage, Ready, Next, Stepped}
use Rattle.comparing.specs.Stacks.{Stacked}
use Rattle.comparing.specs.Texts.{Sources, Comes}
use Rattle.slips.proofs.Passing.{what_passes_follows}
use Rattle.comparing.specs.Runs.{counted_by, steps_from, first_step, at_query, Begun, FollowsIfPassed}
use Rattle.comparing.proofs.Terms.{terms_read_at}

-- ── from step to step ──

-- with a goal in front the next thing is a step, whether another is looked into or not
module _ (rs : List Rule) (slip : List ℕ) (n p : ℕ) (g : Term) (goals : List Term) where
  refused_step : (e : SlipFault) (left : ℕ) → ((more : List Term → ℕ → Result Unit CheckFault) → step rs slip n p g more ≡ Err (InSlip e n)) → steps rs slip left n p (g ∷ goals) ≡ Err (InSlip e n)
  refused_step e zero k = k (λ own q. Err (InSlip (TooManySteps p) n))
  refused_step e (suc left) k = k (λ own q. steps rs slip left (suc n) q (own ++ goals))

  passed_step : (own : List Term) (q left : ℕ) → ((more : List Term → ℕ → Result Unit CheckFault) → step rs slip n p g more ≡ more own q) → steps rs slip (suc left) n p (g ∷ goals) ≡ steps rs slip left (suc n) q (own ++ goals)
  passed_step own q left k = k (λ own q. steps rs slip left (suc n) q (own ++ goals))

close_is : (n p : ℕ) (b : Bool) → ◌≡◌ {A = Result Unit CheckFault} (ask b (InSlip (NoEnd p) n) (Ok tt)) (counted_by {T = Unit {0}} n (ask b (NoEnd p) (Ok tt)))
close_is n p true = refl
close_is n p false = refl

module _ (s : Sources) where
  -- goals that were to be shown are shown exactly where those are that are to be shown now
  pub record Onward (t : Tables) (goals : List Term) (u : Tables) : Type 0 where
    pub goals_now : List Term
    pub stage : Stage s u goals_now
    pub same : steps_from s t goals ≡ steps_from s u goals_now

  module _ {t u : Tables} {goals : List Term} (o : Onward t goals u) where
    module _ (frames : List Cursor) where
      -- with a goal in front
      pub record Front (c : Cursor) : Type 0 where
        pub goal : Term
        pub others : List Term
        pub ready : Ready s (with_frames u frames) c goal others
        pub same : steps_from s t goals ≡ steps_from s u (goal ∷ others)

      pub front : (c : Cursor) → suc (length frames) ≤ length u.frames → Next s u.table frames (Some c) o.goals_now → Front c
      front c l k =
          let z = o.stage.sized in
          record {
            goal = k.0;
            others = k.1 ++ k.2;
            ready =
                record {
                  fit = o.stage.fit;
                  sized = record { few_terms = z.few_terms; few_frames = omega (arith, z.few_frames); few_steps = z.few_steps };
                  own = k.1;
                  below = k.2;
                  comes = k.3;
                  stacked = k.4;
                  goals_are = refl;
                };
            same = o.same ∙ ap (steps_from s u) k.5;
          }

      module _ {c : Cursor} (f : Front c) where
        -- a step passes
        pub turn : (v : Tables) → Stepped s (with_frames u frames) f.goal f.others (Ok tt) v → Onward t goals v × (v.steps ≡ suc u.steps) × (v.steps ≤ step_limit)
        turn v k =
            let few = k.2.sized.few_steps in
            let one = k.3 in
            let less : step_limit - u.steps ≡ suc (step_limit - v.steps) = omega arith in (
              record {
                goals_now = k.0 ++ f.others;
                stage = k.2;
                same =
                    f.same
                    ∙ ap (λ left. steps (rules_in s.rules) s.slip left u.steps u.place (f.goal ∷ f.others)) less
                    ∙ passed_step (rules_in s.rules) s.slip u.steps u.place f.goal f.others k.0 v.place (step_limit - v.steps) k.1
                    ∙ ap (λ m. steps (rules_in s.rules) s.slip (step_limit - v.steps) m v.place (k.0 ++ f.others)) (sym one);
              },
              one,
              few,
            )

        -- or is refused
        pub turn_fails : (e : SlipFault) (v : Tables) → Stepped s (with_frames u frames) f.goal f.others (Err e) v → Err (InSlip e v.steps) ≡ steps_from s t goals
        turn_fails e v k =
            ap (λ n. Err (InSlip e n)) k.1 ∙ sym (f.same ∙ refused_step (rules_in s.rules) s.slip u.steps u.place f.goal f.others e (step_limit - u.steps) k.0)

    -- nothing is to be shown any more
    pub closes : (r : Result Unit SlipFault) → r ≡ closed u.place (drop u.place s.slip) → o.goals_now ≡ [] → counted_by u.steps r ≡ steps_from s t goals
    closes r e none =
        ap (counted_by u.steps) e
        ∙ sym (close_is u.steps u.place (is_only end_byte (drop u.place s.slip)))
        ∙ ap (steps_from s u) (sym none)
        ∙ sym o.same

-- ── the query ──

pub record QueryRead (bs : List ℕ) (v : QueryView) : Type 0 where
  pub query_is : Query
  pub read : query bs ≡ Ok query_is
  pub fit : FitQuery query_is
  pub view : v ≡ query_shown query_is

pub query_read : (bs : List ℕ) (v : QueryView) → AllBytes bs → Ok v ≡ seen query_shown (query bs) → QueryRead bs v
query_read bs v a e = by (query bs) refl e
  where
    by : (r : Result Query SingleFault) → query bs ≡ r → Ok v ≡ seen query_shown r → QueryRead bs v
    by (Ok q) h e = let same : v ≡ query_shown q = cc in record { query_is = q; read = h; fit = (queries_inverse.only_encodings bs q a h).0; view = same }
    by (Err x) h e = absurd cc

-- ── before the first step ──

module _ (rs : List Rule) (slip : List ℕ) (q : Query) where
  abbrev after_query : Result Unit CheckFault
  after_query =
      ask (opens q.variables slip) (InSlip Opening 0)
      (go (terms_at q.variables 2 slip) (λ e. InSlip (Reading e) 0) (λ t. steps rs slip step_limit 0 t.1 (map (present t.0) q.goals)))

  opening_fails : (e : SlipFault) (b : Bool) (r : Result (List Term × ℕ) RuleFault) → Err e ≡ go (ask b Opening (Ok tt)) (λ e. e) (λ (u : Unit {0}). go (where_to r) Reading (λ p. Ok p))
      → Err (InSlip e 0) ≡ ask b (InSlip Opening 0) (go r (λ e. InSlip (Reading e) 0) (λ t. steps rs slip step_limit 0 t.1 (map (present t.0) q.goals)))
  opening_fails e false r h = let same : e ≡ Opening = cc in ap (λ x. Err (InSlip x 0)) same
  opening_fails e true (Ok (ts, p)) h = absurd cc
  opening_fails e true (Err x) h = let same : e ≡ Reading x = cc in ap (λ x. Err (InSlip x 0)) same

  opening_passes : (p : ℕ) (b : Bool) (r : Result (List Term × ℕ) RuleFault) (ts : List Term) → r ≡ Ok (ts, p) → Ok p ≡ go (ask b Opening (Ok tt)) (λ e. e) (λ (u : Unit {0}). go (where_to r) Reading (λ p. Ok p))
      → ask b (InSlip Opening 0) (go r (λ e. InSlip (Reading e) 0) (λ t. steps rs slip step_limit 0 t.1 (map (present t.0) q.goals))) ≡ steps rs slip step_limit 0 p (map (present ts) q.goals)
  opening_passes p false r ts k h = absurd cc
  opening_passes p true r ts k h = ap (λ x. go x (λ e. InSlip (Reading e) 0) (λ t. steps rs slip step_limit 0 t.1 (map (present t.0) q.goals))) k

  first_terms_end : (p : ℕ) (b : Bool) (r : Result (List Term × ℕ) RuleFault) → Ok p ≡ go (ask b Opening (Ok tt)) (λ e. e) (λ (u : Unit {0}). go (where_to r) Reading (λ p. Ok p)) → Ok p ≡ where_to r
  first_terms_end p false r h = absurd cc
  first_terms_end p true (Ok (ts, m)) h = let same : p ≡ m = cc in ap Ok same
  first_terms_end p true (Err x) h = absurd cc

-- the whole
module _ (s : Sources) (bs : List ℕ) (view : QueryView) (k : QueryRead bs view) (body : s.body ≡ view.body) where
  by_query : check (rules_in s.rules) bs s.slip ≡ after_query (rules_in s.rules) s.slip k.query_is
  by_query = ap (λ r. go r InQuery (after_query (rules_in s.rules) s.slip)) k.read

  same_count : view.variables ≡ k.query_is.variables
  same_count = ap (λ v. v.variables) k.view

  pub not_begun : (e : SlipFault) → Err e ≡ first_step view.variables s.slip → Err (InSlip e 0) ≡ check (rules_in s.rules) bs s.slip
  not_begun e h =
      opening_fails (rules_in s.rules) s.slip k.query_is e (opens k.query_is.variables s.slip) (terms_at k.query_is.variables 2 s.slip) (h ∙ ap (λ v. first_step v s.slip) same_count)
      ∙ sym by_query

  -- the stage before the first step, and what is still to be asked
  pub record Start (t : Tables) : Type 0 where
    pub goals : List Term
    pub stage : Stage s t goals
    pub asks : check (rules_in s.rules) bs s.slip ≡ steps_from s t goals

  pub start : (t : Tables) → all_fit s.rules ≡ true → Ok t.place ≡ first_step view.variables s.slip → Begun s.slip view.variables t → Start t
  start t fit h b =
      let q = k.query_is in
      let h2 : Ok t.place ≡ first_step q.variables s.slip = h ∙ ap (λ v. first_step v s.slip) same_count in
      let r = terms_read_at s.slip q.variables 2 t.place (first_terms_end (rules_in s.rules) s.slip q t.place (opens q.variables s.slip) (terms_at q.variables 2 s.slip) h2) in
      let goals = map (present r.terms_are) q.goals in
      let listed = b.listed r.terms_are t.place (ap (λ v. terms_at v 2 s.slip) same_count ∙ r.read) in
      let text : s.body ≡ encodings Rules q.goals = body ∙ ap (λ v. v.body) k.view in
      let comes : Comes s t.table at_query goals =
      record {
        terms = r.terms_are;
        listed = listed;
        own = q.goals;
        in_text = text;
        declared = subst (λ n. AllFit n q.goals) (sym r.count) k.fit.declared;
        short = omega (arith, ap length text, k.fit.short);
        due = [];
        in_slip = refl;
        is = refl;
      } in
      let z = b.sized in
      let none = b.no_step in
      record {
        goals = goals;
        stage =
            record {
              fit = fit;
              sized = record { few_terms = z.few_terms; few_frames = omega (arith, z.few_frames); few_steps = z.few_steps };
              stacked = subst (λ f. Stacked (Comes s t.table) f goals) (sym b.one_frame) (goals, [], comes, refl, refl);
            };
        asks =
            by_query
            ∙ opening_passes (rules_in s.rules) s.slip q t.place (opens q.variables s.slip) (terms_at q.variables 2 s.slip) r.terms_are r.read h2
            ∙ ap (λ n. steps (rules_in s.rules) s.slip (step_limit - n) n t.place goals) (sym none);
      }

-- ── results with the steps put to their faults ──

-- what maps a fault to itself with the steps gives the counted result
pub mapped : (n : ℕ) (r : Result Unit SlipFault) (t : Result Unit CheckFault) (Q : SlipFault → CheckFault → Type 0) → ((e : SlipFault) (d : CheckFault) → Q e d → d ≡ InSlip e n)
    → MatchResult r (λ x. t ≡ Ok x) (λ e. IsErrAnd t (Q e)) → t ≡ counted_by n r
mapped n (Ok x) t Q is m = m
mapped n (Err e) t Q is m = let p = err_from_is_err_and t m in p.1 ∙ ap Err (is e p.0 p.2)

pub counted_ok : (n : ℕ) (r : Result Unit SlipFault) (x : Unit {0}) → Ok x ≡ counted_by n r → r ≡ Ok x
counted_ok n (Ok y) x e = refl
counted_ok n (Err y) x e = absurd cc

pub counted_err : (n : ℕ) (r : Result Unit SlipFault) (x : CheckFault) → Err x ≡ counted_by n r → (e : SlipFault) × (r ≡ Err e) × (x ≡ InSlip e n)
counted_err n (Ok y) x e = absurd cc
counted_err n (Err y) x e = let same : x ≡ InSlip y n = cc in (y, refl, same)

-- ── what passes ──

-- what passes follows, over every store
pub follows : (rules : List (List ℕ)) (bs slip : List ℕ) (r : Result Unit CheckFault) → AllBytes bs → r ≡ check (rules_in rules) bs slip → FollowsIfPassed rules bs slip r
follows rules bs slip r a e ok q read θ claims = what_passes_follows (rules_in rules) bs q a read slip (sym e ∙ ok) θ claims
