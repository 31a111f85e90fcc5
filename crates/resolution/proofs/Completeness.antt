-- Where next says none, every replacement that follows is covered by an answer given. Assumes nothing.
use Rattle.std.proofs.Common.{◌≡◌, ℕ, suc, ◌+◌, ◌-◌, ◌<◌, ◌≤◌, cond, ltb, leb, ◌⊎◌, List, [], ◌∷◌, ◌++◌, map, length, sym, refl, ap, ◌∙◌, subst, ap₂, inl, inr, arith, ltb→lt, nltb→le}
use mathlib.Core.Option.{Option, none, some}
use native.Mathlib.Decide.{dec_lt}
use Rattle.terms.specs.Terms.{Term, var, atom, pair, Rule, Query}
use Rattle.unification.specs.Variables.{Within, shifted}
use Rattle.unification.specs.Ground.{Ground, ground_pair, Replacement, replaced, all_replaced}
use Rattle.unification.specs.Substitutions.{Substitution, apply}
use Rattle.unification.specs.Unification.{unify}
use Rattle.unification.proofs.Choice.{cond_by}
use Rattle.unification.proofs.General.{most_general}
use Rattle.unification.proofs.Ground.{all_replaced_by, all_replaced_append}
use Rattle.resolution.specs.declared.Word.{Word}
use Rattle.resolution.specs.declared.Word.TheVariants.{Answer, Spent, Stopped, NoMore}
use Rattle.resolution.specs.Rules.{rule, WellDeclared}
use Rattle.resolution.specs.Follows.{Follows, by_rule, AllFollow, QueryFollows, Covers}
use Rattle.resolution.specs.Cells.{cell}
use Rattle.resolution.specs.Limits.{allowance_limit}
use Rattle.resolution.specs.Lines.{Step, Place, before, back, landed, tried, End, onward, lines}
use Rattle.resolution.specs.Search.{Condition, running, standing, ended, stopped, Search, condition_after, Called, continued, next}
use Rattle.resolution.specs.Calls.{Session, begun, given_by, called, session}
use Rattle.resolution.specs.Laws.{Says, Some, NoneMeansNone}
use Rattle.resolution.proofs.Follows.{first_follows, others_follow, append_follow}
use Rattle.resolution.proofs.Cells.{cell_fresh, cell_kept, cell_within, map_same}
use Rattle.resolution.proofs.Declared.{Tidy, tidy_stays, tidy_opening}
use Rattle.resolution.proofs.Lines.{at, Dry, Final, lines_keep, lines_final}
use Rattle.resolution.proofs.Sessions.{BeforeSteps, Throughout, back_throughout, try_throughout, Kept, next_kept, sessions_keep, next_by}

-- γ for the cells below n, δ for a rule's own variables, which are shifted by n
abbrev joint : ℕ → Replacement → Replacement → Replacement
joint n γ δ x = cond (ltb x n) (γ x) (δ (x - n))

joint_old : (n : ℕ) (γ δ : Replacement) (t : Term) → Within n t → replaced (joint n γ δ) t ≡ replaced γ t
joint_old n γ δ (var x) b = cond_by (λ (g : Ground). g ≡ γ x) (ltb x n) (λ _. refl) (λ h. absurd (omega (arith, b, nltb→le x n h)))
joint_old n γ δ (atom a) b = refl
joint_old n γ δ (pair s t) b = ap₂ ground_pair (joint_old n γ δ s b.0) (joint_old n γ δ t b.1)

joint_new : (n : ℕ) (γ δ : Replacement) (t : Term) → replaced (joint n γ δ) (shifted n t) ≡ replaced δ t
joint_new n γ δ (var x) =
    cond_by (λ (g : Ground). g ≡ δ x) (ltb (n + x) n) (λ h. absurd (omega (arith, ltb→lt (n + x) n h))) (λ _. ap δ (omega arith))
joint_new n γ δ (atom a) = refl
joint_new n γ δ (pair s t) = ap₂ ground_pair (joint_new n γ δ s) (joint_new n γ δ t)

equal_or_less : (a b : ℕ) → a ≤ b → (a ≡ b) ⊎ (a < b)
equal_or_less a b h = by_cases (dec_lt a b)
  where
    by_cases : Dec (a < b) → (a ≡ b) ⊎ (a < b)
    by_cases (yes l) = inr l
    by_cases (no l) = inl (omega arith)

IsNone : Word → Type 0
IsNone Answer = ⊥
IsNone Spent = ⊥
IsNone (Stopped why) = ⊥
IsNone NoMore = Unit {0}

module _ (rs : List Rule) (q : Query) (d : WellDeclared rs q) (θ : Replacement) where
  -- the first goal follows by the rule with the number `due` or a later one, and the others follow
  record First (due : ℕ) (g : Ground) (gs : List Ground) : Type 0 where
    number : ℕ
    at_least : due ≤ number
    there : number < length rs
    own : Replacement
    head : g ≡ replaced own (rule rs number).head
    body : AllFollow rs (all_replaced own (rule rs number).goals)
    others : AllFollow rs gs

  abbrev From : ℕ → List Ground → Type 0
  From due [] = Unit {0}
  From due (g ∷ gs) = First due g gs

  first_by : (g : Ground) (gs : List Ground) → Follows rs g → AllFollow rs gs → First 0 g gs
  first_by g gs (by_rule i δ l e b) o = record { number = i; at_least = omega arith; there = l; own = δ; head = e; body = b; others = o }

  from_all : (gs : List Ground) → AllFollow rs gs → From 0 gs
  from_all [] a = tt
  from_all (g ∷ gs) a = first_by g gs (first_follows a) (others_follow a)

  -- θ is still to come from these goals and cells
  record Pending (goals : List Term) (due : ℕ) (cells : List Term) : Type 0 where
    γ : Replacement
    agrees : (k : ℕ) → k < q.variables → replaced γ (cell cells k) ≡ θ k
    from : From due (all_replaced γ goals)

  -- θ is still to come from before a step, by a rule after the step's
  abbrev Left : List Step → Type 0
  Left [] = ⊥
  Left (f ∷ fs) = Pending (f.goal ∷ f.rest) (suc f.rule) f.cells ⊎ Left fs

  abbrev Ahead : Place → Type 0
  Ahead p = Pending p.goals p.due p.cells ⊎ Left p.branch

  -- nothing is pending where no rule is left
  none_left : {A : Type 0} (g : Term) (rest : List Term) (due : ℕ) (cells : List Term) → length rs ≤ due → Pending (g ∷ rest) due cells → A
  none_left g rest due cells l p = absurd (omega (arith, l, p.from.at_least, p.from.there))

  back_ahead : (g : Term) (rest : List Term) (due : ℕ) (cells : List Term) (f : Step) (fs : List Step) → length rs ≤ due → Ahead (at (g ∷ rest) due cells (f ∷ fs)) → Ahead (before f fs)
  back_ahead g rest due cells f fs l (inl p) = none_left g rest due cells l p
  back_ahead g rest due cells f fs l (inr h) = h

  -- pending by a later rule, or before an older step: whatever the try comes to
  later_rule : (p : Place) (r : Rule) (g : Term) (rest : List Term) (u : Option Substitution) → Pending (g ∷ rest) (suc p.due) p.cells → Ahead (landed p r g rest u)
  later_rule p r g rest none h = inl h
  later_rule p r g rest (some σ) h = inr (inl h)

  older_step : (p : Place) (r : Rule) (g : Term) (rest : List Term) (u : Option Substitution) → Left p.branch → Ahead (landed p r g rest u)
  older_step p r g rest none h = inr h
  older_step p r g rest (some σ) h = inr (inr h)

  -- pending by this very rule: the try succeeds, and what it leaves is pending
  this_rule : (p : Place) (g : Term) (rest : List Term) (γ δ : Replacement) → Tidy rs q (g ∷ rest) p.cells p.branch
      → ((k : ℕ) → k < q.variables → replaced γ (cell p.cells k) ≡ θ k)
      → replaced γ g ≡ replaced δ (rule rs p.due).head → AllFollow rs (all_replaced δ (rule rs p.due).goals) → AllFollow rs (all_replaced γ rest)
      → Ahead (tried rs p g rest)
  this_rule p g rest γ δ o agrees e b others =
      subst (λ (u : Option Substitution). Ahead (landed p r g rest u)) (sym u.1)
      (inl (record {
        γ = μ;
        agrees = λ k h. ap (replaced μ) (cell_kept σ p.cells r.variables k (omega (arith, h, o.wide))) ∙ u.2 (cell p.cells k) ∙ joint_old n γ δ (cell p.cells k) (cell_within n p.cells k o.cells_within) ∙ agrees k h;
        from = from_all (all_replaced μ (landed p r g rest (some σ)).goals) (subst (AllFollow rs) (sym goals_now) (append_follow (all_replaced δ r.goals) (all_replaced γ rest) b others));
      }))
    where
      n : ℕ
      n = length p.cells

      r : Rule
      r = rule rs p.due

      μ : Replacement
      μ = joint n γ δ

      u : (σ : Substitution) × (unify (shifted n r.head) g ≡ some σ) × ((t : Term) → replaced μ (apply σ t) ≡ replaced μ t)
      u = most_general μ (shifted n r.head) g (joint_new n γ δ r.head ∙ sym e ∙ sym (joint_old n γ δ g o.goals_within.0))

      σ : Substitution
      σ = u.0

      goals_now : all_replaced μ (map (apply σ) (map (shifted n) r.goals ++ rest)) ≡ all_replaced δ r.goals ++ all_replaced γ rest
      goals_now =
          all_replaced_by μ μ (apply σ) u.2 (map (shifted n) r.goals ++ rest)
          ∙ all_replaced_append μ (map (shifted n) r.goals) rest
          ∙ ap₂ ◌++◌ (all_replaced_by μ δ (shifted n) (joint_new n γ δ) r.goals) (map_same n (replaced μ) (replaced γ) (joint_old n γ δ) rest o.goals_within.1)

  by_number : (p : Place) (g : Term) (rest : List Term) (h : Pending (g ∷ rest) p.due p.cells) → Tidy rs q (g ∷ rest) p.cells p.branch
      → (p.due ≡ h.from.number) ⊎ (p.due < h.from.number) → Ahead (tried rs p g rest)
  by_number p g rest h o (inl e) =
      this_rule p g rest h.γ h.from.own o h.agrees
      (h.from.head ∙ ap (λ (i : ℕ). replaced h.from.own (rule rs i).head) (sym e))
      (subst (λ (i : ℕ). AllFollow rs (all_replaced h.from.own (rule rs i).goals)) (sym e) h.from.body)
      h.from.others
  by_number p g rest h o (inr l) =
      later_rule p (rule rs p.due) g rest (unify (shifted (length p.cells) (rule rs p.due).head) g)
      (record {
        γ = h.γ;
        agrees = h.agrees;
        from = record {
          number = h.from.number;
          at_least = l;
          there = h.from.there;
          own = h.from.own;
          head = h.from.head;
          body = h.from.body;
          others = h.from.others;
        };
      })

  try_ahead : (p : Place) (g : Term) (rest : List Term) → Tidy rs q (g ∷ rest) p.cells p.branch → Pending (g ∷ rest) p.due p.cells ⊎ Left p.branch → Ahead (tried rs p g rest)
  try_ahead p g rest o (inl h) = by_number p g rest h o (equal_or_less p.due h.from.number h.from.at_least)
  try_ahead p g rest o (inr h) = older_step p (rule rs p.due) g rest (unify (shifted (length p.cells) (rule rs p.due).head) g) h

  abbrev TidyThroughout : Place → Type 0
  TidyThroughout = Throughout rs (Tidy rs q) (tidy_stays rs q d.0)

  abbrev Open : Place → Type 0
  Open p = TidyThroughout p × Ahead p

  lines_open : (a : ℕ) (p : Place) → Open p → Open (lines rs a p).place
  lines_open =
      lines_keep rs Open
      (λ g rest due cells f fs l h. (back_throughout rs (Tidy rs q) (tidy_stays rs q d.0) g rest due cells f fs l h.0, back_ahead g rest due cells f fs l h.1))
      (λ g rest due cells fs l e h. (try_throughout rs (Tidy rs q) (tidy_stays rs q d.0) g rest due cells fs l e h.0, try_ahead (at (g ∷ rest) due cells fs) g rest h.0.0 h.1))

  abbrev Covered : List Place → Type 0
  Covered ps = Some (λ (p : Place). Covers q.variables p.cells θ) ps

  -- θ still to come from a search in this condition; a stopped search is no concern
  abbrev Awaits : Condition → Place → Type 0
  Awaits running p = Ahead p
  Awaits standing p = Left p.branch
  Awaits ended p = ⊥
  Awaits (stopped why) p = Unit {0}

  dry_ahead : (goals : List Term) (due : ℕ) (cells : List Term) (fs : List Step) → Dry (length rs) goals due fs → Ahead (at goals due cells fs) → ⊥
  dry_ahead [] due cells fs f h = f
  dry_ahead (g ∷ rest) due cells [] f (inl p) = none_left g rest due cells f p
  dry_ahead (g ∷ rest) due cells [] f (inr h) = h
  dry_ahead (g ∷ rest) due cells (s ∷ fs) f h = f

  pending_covers : (goals : List Term) (due : ℕ) (cells : List Term) → Pending goals due cells → Covers q.variables cells θ
  pending_covers goals due cells p = (p.γ, p.agrees)

  -- θ has its answer, or is still to come
  abbrev Accounted : List Place → Condition → Place → Type 0
  Accounted ps c p = Covered ps ⊎ Awaits c p

  still_covered : (w : Word) (p : Place) (ps : List Place) → Covered ps → Covered (given_by w p ps)
  still_covered Answer p ps h = inr h
  still_covered Spent p ps h = h
  still_covered (Stopped why) p ps h = h
  still_covered NoMore p ps h = h

  answer_accounted : (p : Place) (ps : List Place) → Ahead p → Accounted (p ∷ ps) standing p
  answer_accounted p ps (inl h) = inl (inl (pending_covers p.goals p.due p.cells h))
  answer_accounted p ps (inr h) = inr h

  end_accounted : (w : Word) (left : ℕ) (p : Place) (ps : List Place) → Final rs w left p → Ahead p → Accounted (given_by w p ps) (condition_after w) p
  end_accounted Answer left p ps f h = answer_accounted p ps h
  end_accounted Spent left p ps f h = inr h
  end_accounted (Stopped why) left p ps f h = inr tt
  end_accounted NoMore left p ps f h = inr (dry_ahead p.goals p.due p.cells p.branch f h)

  lines_accounted : (a : ℕ) (p : Place) (ps : List Place) → Open p → let e : End = lines rs a p in Accounted (given_by e.word e.place ps) (condition_after e.word) e.place
  lines_accounted a p ps h =
      end_accounted (lines rs a p).word (lines rs a p).left (lines rs a p).place ps (lines_final rs a p) (lines_open a p h).1

  abbrev AllAccounted : Session → Type 0
  AllAccounted z = Accounted z.given z.search.condition z.search.place

  leaving_accounted : (a : ℕ) (p : Place) (ps : List Place) (fs : List Step) → BeforeSteps rs (Tidy rs q) (tidy_stays rs q d.0) fs → Left fs
      → let e : End = onward (lines rs) a p (back a fs) in Accounted (given_by e.word e.place ps) (condition_after e.word) e.place
  leaving_accounted a p ps [] t h = absurd h
  leaving_accounted a p ps (f ∷ fs) t h = lines_accounted a (before f fs) ps (t, h)

  continued_accounted : (a : ℕ) (s : Search) (ps : List Place) → TidyThroughout s.place → (c : Condition) → s.condition ≡ c → Awaits c s.place → AllAccounted (called (continued rs a s c) ps)
  continued_accounted a s ps t running e h = lines_accounted a s.place ps (t, h)
  continued_accounted a s ps t standing e h = leaving_accounted a s.place ps s.place.branch t.1 h
  continued_accounted a s ps t ended e h = absurd h
  continued_accounted a s ps t (stopped why) e h = inr (subst (λ (c : Condition). Awaits c s.place) (sym e) tt)

  covered_still : (a : ℕ) (s : Search) (ps : List Place) → Covered ps → (c : Condition) → Covered (called (continued rs a s c) ps).given
  covered_still a s ps h running = still_covered (lines rs a s.place).word (lines rs a s.place).place ps h
  covered_still a s ps h standing =
      let e : End = onward (lines rs) a s.place (back a s.place.branch) in still_covered e.word e.place ps h
  covered_still a s ps h ended = h
  covered_still a s ps h (stopped why) = h

  continued_all : (a : ℕ) (z : Session) → TidyThroughout z.search.place → AllAccounted z → AllAccounted (called (continued rs a z.search z.search.condition) z.given)
  continued_all a z t (inl h) = inl (covered_still a z.search z.given h z.search.condition)
  continued_all a z t (inr h) = continued_accounted a z.search z.given t z.search.condition refl h

  record SoFar (z : Session) : Type 0 where
    kept : Kept rs (Tidy rs q) (tidy_stays rs q d.0) z
    accounted : AllAccounted z

  next_so_far : (a : ℕ) (z : Session) → SoFar z → SoFar (called (next rs a z.search) z.given)
  next_so_far a z h =
      record {
        kept = next_kept rs (Tidy rs q) (tidy_stays rs q d.0) a z h.kept;
        accounted = next_by rs AllAccounted a z h.accounted (continued_all a z h.kept.now_kept h.accounted);
      }

  opening_so_far : QueryFollows rs q θ → SoFar (begun q)
  opening_so_far f =
      record {
        kept = record { now_kept = (tidy_opening rs q d.1, tt); given_kept = tt };
        accounted = inr (inl (record {
          γ = θ;
          agrees = λ k h. ap (replaced θ) (cell_fresh 0 q.variables k h) ∙ ap θ (omega arith);
          from = from_all (all_replaced θ q.goals) f;
        }));
      }

  -- a call that says none leaves nothing to come
  lines_none : (a : ℕ) (p : Place) → Open p → (lines rs a p).word ≡ NoMore → ⊥
  lines_none a p h k =
      let e : End = lines rs a p in
      dry_ahead e.place.goals e.place.due e.place.cells e.place.branch
      (subst (λ (w : Word). Final rs w (lines rs a p).left (lines rs a p).place) k (lines_final rs a p)) (lines_open a p h).1

  leaving_none : (a : ℕ) (p : Place) (fs : List Step) → BeforeSteps rs (Tidy rs q) (tidy_stays rs q d.0) fs → Left fs → (onward (lines rs) a p (back a fs)).word ≡ NoMore → ⊥
  leaving_none a p [] t h k = h
  leaving_none a p (f ∷ fs) t h k = lines_none a (before f fs) (t, h) k

  continued_none : (a : ℕ) (s : Search) → TidyThroughout s.place → (c : Condition) → Awaits c s.place → Says NoMore (continued rs a s c).result → ⊥
  unfolding IsNone
  continued_none a s t running h k = lines_none a s.place (t, h) k
  continued_none a s t standing h k = leaving_none a s.place s.place.branch t.1 h k
  continued_none a s t ended h k = h
  continued_none a s t (stopped why) h k = subst IsNone (sym k) tt

  covered_by_now : (a : ℕ) (z : Session) → TidyThroughout z.search.place → AllAccounted z → Says NoMore (next rs a z.search).result → Covered z.given
  covered_by_now a z t (inl h) k = h
  covered_by_now a z t (inr h) k =
      absurd (cond_by (λ (c : Called). Says NoMore c.result → ⊥) (leb a allowance_limit) (λ _. continued_none a z.search t z.search.condition h) (λ _ e. e) k)

pub none_means_none : NoneMeansNone
none_means_none rs q d calls a k θ f =
    let h : SoFar rs q d θ (session rs q calls) = sessions_keep rs q (SoFar rs q d θ) (opening_so_far rs q d θ f) (next_so_far rs q d θ) calls in
    covered_by_now rs q d θ a (session rs q calls) h.kept.now_kept h.accounted k
