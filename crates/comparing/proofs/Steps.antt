-- One step of a slip. Assumes nothing.
use Rattle.std.proofs.Common.{◌≡◌, ℕ, suc, ◌+◌, ◌*◌, ◌<◌, ◌≤◌, Bool, true, false, ltb, List, [], ◌∷◌, ◌++◌, map, length, get_or, drop, Ok, Err, Option, Result, sym, refl, ap, ◌∙◌, subst, arith, length-append}
use Rattle.std.proofs.lemmas.List.{drop-drop, get_or_append_left}
use Rattle.std.proofs.lemmas.Bool.{ltb-true}
use Rattle.terms.specs.Terms.{Term, Rule}
use Rattle.grammar.specs.declared.faults.CommandFault.{CommandFault}
use Rattle.grammar.specs.declared.faults.RuleFault.{RuleFault}
use Rattle.grammar.specs.declared.faults.RuleFault.TheVariants.{Command}
use Rattle.grammar.specs.Asking.{ask, go}
use Rattle.grammar.proofs.Framed.{ask_yes, go_yes}
use Rattle.resolution.specs.Rules.{rule}
use Rattle.resolution.specs.Cells.{cell, present}
use Rattle.resolution.specs.Limits.{step_limit}
use Rattle.slips.specs.declared.faults.SlipFault.{SlipFault}
use Rattle.slips.specs.declared.faults.SlipFault.TheVariants.{Reading, NoStep, TooManySteps, NoRule, OtherGoal}
use Rattle.slips.specs.declared.faults.CheckFault.{CheckFault}
use Rattle.slips.specs.declared.faults.CheckFault.TheVariants.{InSlip}
use Rattle.slips.specs.Slips.{step_byte}
use Rattle.slips.specs.Checker.{begins, step_operands, has_rule, terms_at, same, step}
use Rattle.slips.specs.Opening.{rules_in}
use Rattle.comparing.specs.declared.Inside.{Inside}
use Rattle.comparing.specs.declared.Cursor.{Cursor}
use Rattle.comparing.specs.declared.StepStart.{StepStart}
use Rattle.comparing.specs.Cursors.{Stands, Listed, Means}
use Rattle.comparing.specs.Comparisons.{Compared}
use Rattle.comparing.specs.Parts.{step_start, step_begun, step_chosen}
use Rattle.comparing.specs.Places.{where_to, Added}
use Rattle.comparing.specs.Texts.{Sources, Comes, SomeTerm, Agreed}
use Rattle.comparing.specs.Stacks.{Stacked}
use Rattle.comparing.specs.Stages.{Tables, Ready, Stepped, pushed, head_at}
use Rattle.comparing.proofs.Rules.{Chosen, chosen}
use Rattle.comparing.proofs.Stacks.{put_on, stays}
use Rattle.comparing.proofs.Terms.{TermsRead, terms_read_at, terms_fail_at}

-- ── the questions before a step's terms ──

module _ (n p : ℕ) (rest : StepStart → Result Unit CheckFault) where
  last_question : (h : Bool) (o : StepStart) → ask h (InSlip (NoRule p) n) (rest o) ≡ go (ask h (NoRule p) (Ok o)) (λ e. InSlip e n) rest
  last_question true o = refl
  last_question false o = refl

  first_questions : (b l : Bool) (o : Result (ℕ × ℕ) CommandFault) (has : ℕ × ℕ → Bool)
      → ask b (InSlip (NoStep p) n) (go o (λ e. InSlip (Reading (Command e)) n) (λ o. ask l (InSlip (TooManySteps p) n) (ask (has o) (InSlip (NoRule p) n) (rest (step_start p o)))))
      ≡ go (go (ask b (NoStep p) (go o (λ e. Reading (Command e)) (λ o. Ok (step_start p o)))) (λ e. e) (λ h. ask l (TooManySteps p) (ask (has (h.rule, h.count)) (NoRule p) (Ok h)))) (λ e. InSlip e n) rest
  first_questions false l o has = refl
  first_questions true l (Err e) has = refl
  first_questions true false (Ok o) has = refl
  first_questions true true (Ok o) has = last_question (has o) (step_start p o)

module _ (rs : List Rule) (slip : List ℕ) (n p : ℕ) (g : Term) (more : List Term → ℕ → Result Unit CheckFault) where
  -- the head of a step, once its terms are read
  abbrev by_head : StepStart → List Term × ℕ → Result Unit CheckFault
  by_head h t = ask (same (present t.0 (rule rs h.rule).head) g) (InSlip (OtherGoal p) n) (more (map (present t.0) (rule rs h.rule).goals) t.1)

  abbrev by_terms : StepStart → Result Unit CheckFault
  by_terms h = go (terms_at h.count h.terms slip) (λ e. InSlip (Reading e) n) (by_head h)

  by_questions : step rs slip n p g more ≡ go (step_chosen rs slip n p) (λ e. InSlip e n) by_terms
  by_questions =
      ap (λ bs. ask (begins step_byte (drop p slip)) (InSlip (NoStep p) n) (go (step_operands p bs) (λ e. InSlip (Reading (Command e)) n) (λ o. ask (ltb n step_limit) (InSlip (TooManySteps p) n) (ask (has_rule rs o.0 o.1) (InSlip (NoRule p) n) (by_terms (step_start p o))))))
      (ap (λ m. drop m slip) (let e : suc p ≡ p + 1 = omega arith in e) ∙ sym (drop-drop 1 p slip))
      ∙ first_questions n p by_terms (begins step_byte (drop p slip)) (ltb n step_limit) (step_operands p (drop 1 (drop p slip))) (λ o. has_rule rs o.0 o.1)

  pub not_chosen : (e : SlipFault) → Err e ≡ step_chosen rs slip n p → step rs slip n p g more ≡ Err (InSlip e n)
  not_chosen e q = by_questions ∙ ap (λ r. go r (λ e. InSlip e n) by_terms) (sym q)

  module _ (h : StepStart) (q : Ok h ≡ step_chosen rs slip n p) where
    on_terms : step rs slip n p g more ≡ by_terms h
    on_terms = by_questions ∙ ap (λ r. go r (λ e. InSlip e n) by_terms) (sym q)

    pub terms_fail : (x : RuleFault) → Err x ≡ where_to (terms_at h.count h.terms slip) → step rs slip n p g more ≡ Err (InSlip (Reading x) n)
    terms_fail x e = on_terms ∙ ap (λ r. go r (λ e. InSlip (Reading e) n) (by_head h)) (terms_fail_at slip h.count h.terms x e)

    module _ (m : ℕ) (ts : List Term) (e : terms_at h.count h.terms slip ≡ Ok (ts, m)) where
      on_head : step rs slip n p g more ≡ by_head h (ts, m)
      on_head = on_terms ∙ ap (λ r. go r (λ e. InSlip (Reading e) n) (by_head h)) e

      pub head_fails : false ≡ same (present ts (rule rs h.rule).head) g → step rs slip n p g more ≡ Err (InSlip (OtherGoal p) n)
      head_fails k = on_head ∙ ap (λ b. ask b (InSlip (OtherGoal p) n) (more (map (present ts) (rule rs h.rule).goals) m)) (sym k)

      pub head_passes : true ≡ same (present ts (rule rs h.rule).head) g → step rs slip n p g more ≡ more (map (present ts) (rule rs h.rule).goals) m
      head_passes k = on_head ∙ ap (λ b. ask b (InSlip (OtherGoal p) n) (more (map (present ts) (rule rs h.rule).goals) m)) (sym k)

-- what the questions say
pub record Choice (rs : List Rule) (n : ℕ) (h : StepStart) : Type 0 where
  pub room : n < step_limit
  pub has : true ≡ has_rule rs h.rule h.count

pub choice : (rs : List Rule) (slip : List ℕ) (n p : ℕ) (h : StepStart) → Ok h ≡ step_chosen rs slip n p → Choice rs n h
choice rs slip n p h q =
    let a = go_yes (step_begun p (drop p slip)) (λ e. e) (λ h. ask (ltb n step_limit) (TooManySteps p) (ask (has_rule rs h.rule h.count) (NoRule p) (Ok h))) h (sym q) in
    let b = ask_yes (ltb n step_limit) (TooManySteps p) _ h a.2 in
    let c = ask_yes (has_rule rs a.0.rule a.0.count) (NoRule p) (Ok a.0) h b.1 in
    let same : a.0 ≡ h = ok_is a.0 h c.1 in
    record { room = ltb-true n step_limit b.0; has = sym (ap (λ h. has_rule rs h.rule h.count) (sym same) ∙ c.0) }
  where
    ok_is : (x y : StepStart) → ◌≡◌ {A = Result StepStart SlipFault} (Ok x) (Ok y) → x ≡ y
    ok_is x y e = cc

-- ── the tables ──

-- what was to come still is, if entries come to the table
pub extended : {slip table table2 text : List ℕ} {first place : ℕ} {inside : Option Inside} {pending : List Term} (n : ℕ) → Means slip table text first place inside pending → Added table table2 n
    → Means slip table2 text first place inside pending
extended {slip} {table} {table2} {text} {first} n m a =
    let k = m.listed in
    record {
      terms = m.terms;
      listed =
          record {
            within = omega (arith, k.within, ap length a.together, length-append table a.more);
            stand = λ j h. subst (λ q. Stands slip q (cell m.terms j ∷ []))
                (sym (ap (λ t. get_or t (first + j) 0) a.together ∙ get_or_append_left table a.more 0 (first + j) (omega (arith, k.within)))) (k.stand j h);
          };
      own = m.own;
      in_text = m.in_text;
      declared = m.declared;
      short = m.short;
      due = m.due;
      in_slip = m.in_slip;
      is = m.is;
    }

module _ (s : Sources) (t : Tables) (c : Cursor) (g : Term) (goals : List Term) (r : Ready s t c g goals) where
  abbrev rs : List Rule
  rs = rules_in s.rules

  module _ (h : StepStart) (q : Ok h ≡ step_chosen rs s.slip t.steps t.place) where
    the_choice : Choice rs t.steps h
    the_choice = choice rs s.slip t.steps t.place h q

    the_rule : Chosen s r.fit h.rule h.count
    the_rule = chosen s r.fit h.rule h.count the_choice.has

    -- there is room for the step's terms, and for two frames
    pub room : (length t.table + h.count ≤ 64 * (t.steps + 2)) × (length t.frames ≤ t.steps) × (t.steps < 512)
    room =
        let z = r.sized in
        let c = the_choice.room in
        (omega (arith, z.few_terms, the_rule.few), z.few_frames, omega arith)

    module _ (table2 : List ℕ) (m : ℕ) (added : Added t.table table2 h.count)
        (listed : (ts : List Term) (q : ℕ) → terms_at h.count h.terms s.slip ≡ Ok (ts, q) → Listed s.slip table2 (length t.table) ts)
        (e : Ok m ≡ where_to (terms_at h.count h.terms s.slip)) where
      read : TermsRead s.slip h.count h.terms m
      read = terms_read_at s.slip h.count h.terms m e

      abbrev head : Term
      head = present read.terms_are (rule rs h.rule).head

      abbrev own : List Term
      own = map (present read.terms_are) (rule rs h.rule).goals

      head_comes : Comes s table2 (head_at h.rule (length t.table)) (head ∷ own)
      head_comes = the_rule.comes table2 (length t.table) read.terms_are read.count (listed read.terms_are m read.read)

      goal_comes : Comes s table2 c (g ∷ r.own)
      goal_comes = extended h.count r.comes added

      pub both_come : SomeTerm s table2 (head_at h.rule (length t.table)) × SomeTerm s table2 c
      both_come = ((head, own, head_comes), (g, r.own, goal_comes))

      module _ (head2 goal2 : Cursor) (b : Bool) (agreed : Agreed s table2 (head_at h.rule (length t.table)) c head2 goal2 b) where
        comparison : Compared head own g r.own (Comes s table2 head2) (Comes s table2 goal2) b
        comparison = agreed head own g r.own head_comes goal_comes

        pub refuses : b ≡ false → (more : List Term → ℕ → Result Unit CheckFault) → step rs s.slip t.steps t.place g more ≡ Err (InSlip (OtherGoal t.place) t.steps)
        refuses k more = head_fails rs s.slip t.steps t.place g more h q m read.terms_are read.read (sym k ∙ comparison.value)

        pub goes_on : b ≡ true → Stepped s t g goals (Ok tt) (pushed t table2 goal2 head2 m)
        goes_on k = (
          own,
          (λ more. head_passes rs s.slip t.steps t.place g more h q m read.terms_are read.read (sym k ∙ comparison.value)),
          record {
            fit = r.fit;
            sized =
                record {
                  few_terms = omega (arith, room.0, ap length added.together, length-append t.table added.more, added.count);
                  few_frames = omega (arith, room.1, length-append (t.frames ++ goal2 ∷ []) (head2 ∷ []), length-append t.frames (goal2 ∷ []));
                  few_steps = omega (arith, room.2);
                };
            stacked =
                put_on (Comes s table2) (t.frames ++ goal2 ∷ []) head2 own goals (comparison.one k)
                (subst (Stacked (Comes s table2) (t.frames ++ goal2 ∷ [])) (sym r.goals_are)
                (put_on (Comes s table2) t.frames goal2 r.own r.below (comparison.other k)
                (stays (Comes s t.table) (Comes s table2) (λ d os m. extended h.count m added) t.frames r.below r.stacked)));
          },
          omega arith,
        )
