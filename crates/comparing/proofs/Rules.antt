-- The rules of a store as texts. Assumes nothing.
use Rattle.std.proofs.Common.{◌≡◌, ℕ, ◌<◌, ◌≤◌, Bool, true, false, cond, ◌&&◌, eqb, ltb, ◌⊎◌, List, [], ◌∷◌, ◌++◌, map, length, get_or, drop, Some, sym, refl, ap, ◌∙◌, subst, inl, inr, arith}
use lib.ListN.{length-map}
use Rattle.std.proofs.lemmas.List.{get_or-map}
use Rattle.std.proofs.lemmas.Bool.{eqb-true, eq-eqb, ne_eqb, lt-ltb, le-ltb, cases_lt}
use Rattle.std.specs.Option.{option_eq}
use Rattle.terms.specs.declared.Form.TheVariants.{Rules}
use Rattle.terms.specs.Terms.{Term}
use Rattle.terms.specs.Bytes.{two, encodings, AllFit}
use Rattle.grammar.specs.Singles.{rule as read_rule}
use Rattle.grammar.specs.Encodings.{rule_bytes, FitRule}
use Rattle.grammar.specs.Texts.{all_fit}
use Rattle.grammar.proofs.Fitting.{fit_text, fit_at, fit_short}
use Rattle.stores.specs.Answers.{no_number, count_of, byte_at, byte_of}
use Rattle.stores.proofs.Piled.{there, not_there}
use Rattle.resolution.specs.Rules.{no_rule, rule}
use Rattle.resolution.specs.Cells.{present}
use Rattle.slips.specs.Checker.{has_rule}
use Rattle.slips.specs.Opening.{rule_or_none, rules_in}
use Rattle.comparing.specs.declared.Source.{Source}
use Rattle.comparing.specs.declared.Source.TheVariants.{Query as OfQuery, Rule as OfRule}
use Rattle.comparing.specs.Cursors.{Listed}
use Rattle.comparing.specs.Texts.{Sources, text_of, Comes}
use Rattle.comparing.specs.Stages.{head_at}
use Rattle.comparing.proofs.Fronts.{byte_front}

-- the bytes of a rule that is there
record RuleText (ts : List (List ℕ)) (i : ℕ) : Type 0 where
  pub bytes : get_or ts i [] ≡ rule_bytes (rule (rules_in ts) i)
  pub fit : FitRule (rule (rules_in ts) i)

module _ (ts : List (List ℕ)) (fit : all_fit ts ≡ true) where
  rule_text : (i : ℕ) → i < length ts → RuleText ts i
  rule_text i l =
      let t = fit_text (get_or ts i []) (fit_at ts i fit l) in
      let same : rule (rules_in ts) i ≡ t.r = get_or-map (λ (bs : List ℕ). rule_or_none (read_rule bs)) ts i [] no_rule l ∙ ap rule_or_none t.read in
      record { bytes = t.bytes ∙ ap rule_bytes (sym same); fit = subst FitRule (sym same) t.within }

  -- the byte behind a rule's first is its number of variables
  variables_byte : (i : ℕ) → i < count_of ts → byte_of ts i 1 ≡ Some (rule (rules_in ts) i).variables
  variables_byte i l =
      let r = rule (rules_in ts) i in
      there (byte_at 1) ts i l
      ∙ byte_front (get_or ts i []) 1 r.variables (length r.goals ∷ (two (length (encodings Rules (r.head ∷ r.goals))) ++ encodings Rules (r.head ∷ r.goals)))
      (ap (drop 1) (rule_text i (omega arith)).bytes)

  counted : length (rules_in ts) ≡ length ts
  counted = length-map ts (λ (bs : List ℕ). rule_or_none (read_rule bs))

  here : (i v : ℕ) → i < count_of ts → has_rule (rules_in ts) i v ≡ eqb v (rule (rules_in ts) i).variables
  here i v l =
      let a : ltb i (length (rules_in ts)) ≡ true = lt-ltb i (length (rules_in ts)) (omega (arith, counted)) in
      let b : ltb i no_number ≡ true = lt-ltb i no_number (omega arith) in
      ap (λ t. t && (ltb i no_number && eqb v (rule (rules_in ts) i).variables)) a
      ∙ ap (λ t. t && eqb v (rule (rules_in ts) i).variables) b

  nowhere : (i v : ℕ) → count_of ts ≤ i → has_rule (rules_in ts) i v ≡ false
  nowhere i v l = by (cases_lt i (length ts))
    where
      by : (i < length ts) ⊎ (length ts ≤ i) → has_rule (rules_in ts) i v ≡ false
      by (inl m) =
          let a : ltb i (length (rules_in ts)) ≡ true = lt-ltb i (length (rules_in ts)) (omega (arith, counted)) in
          let b : ltb i no_number ≡ false = le-ltb i no_number (omega arith) in
          ap (λ t. t && (ltb i no_number && eqb v (rule (rules_in ts) i).variables)) a
          ∙ ap (λ t. t && eqb v (rule (rules_in ts) i).variables) b
      by (inr m) = ap (λ t. t && (ltb i no_number && eqb v (rule (rules_in ts) i).variables)) (le-ltb i (length (rules_in ts)) (omega (arith, counted)))

  eqb-sym : (a b : ℕ) → eqb a b ≡ eqb b a
  eqb-sym a b = by (eqb a b) refl
    where
      by : (t : Bool) → eqb a b ≡ t → eqb a b ≡ eqb b a
      by true q = q ∙ sym (eq-eqb b a (sym (eqb-true a b q)))
      by false q = q ∙ sym (ne_eqb b a (λ e. (let h = eq-eqb a b (sym e) in cc)))

  -- what that byte tells
  pub has_byte : (i v : ℕ) → option_eq eqb (byte_of ts i 1) (Some v) ≡ has_rule (rules_in ts) i v
  has_byte i v = by (cases_lt i (count_of ts))
    where
      by : (i < count_of ts) ⊎ (count_of ts ≤ i) → option_eq eqb (byte_of ts i 1) (Some v) ≡ has_rule (rules_in ts) i v
      by (inl l) =
          let declared = (rule (rules_in ts) i).variables in
          ap (λ o. option_eq eqb o (Some v)) (variables_byte i l) ∙ eqb-sym declared v ∙ sym (here i v l)
      by (inr l) = ap (λ o. option_eq eqb o (Some v)) (not_there (byte_at 1) ts i l) ∙ sym (nowhere i v l)

-- ── texts ──

module _ (s : Sources) (fit : all_fit s.rules ≡ true) where
  rule_short : (i : ℕ) → length (text_of s (OfRule i)) ≤ 517
  rule_short i = by (cases_lt i (count_of s.rules))
    where
      by : (i < count_of s.rules) ⊎ (count_of s.rules ≤ i) → length (text_of s (OfRule i)) ≤ 517
      by (inl m) =
          subst (λ b. length (cond b (get_or s.rules i []) []) ≤ 517) (sym (lt-ltb i (count_of s.rules) m)) (fit_short (get_or s.rules i []) (fit_at s.rules i fit (omega arith)))
      by (inr m) = subst (λ b. length (cond b (get_or s.rules i []) []) ≤ 517) (sym (le-ltb i (count_of s.rules) m)) (omega arith)

  pub text_short : (x : Source) → length s.body ≤ 512 → length (text_of s x) ≤ 517
  text_short OfQuery l = omega arith
  text_short (OfRule i) l = rule_short i

  -- a rule that has the step's number of variables
  pub record Chosen (i v : ℕ) : Type 0 where
    pub few : v ≤ 64
    pub comes : (table : List ℕ) (first : ℕ) (us : List Term) → length us ≡ v → Listed s.slip table first us
        → Comes s table (head_at i first) (map (present us) ((rule (rules_in s.rules) i).head ∷ (rule (rules_in s.rules) i).goals))

  pub chosen : (i v : ℕ) → true ≡ has_rule (rules_in s.rules) i v → Chosen i v
  chosen i v e = by (cases_lt i (count_of s.rules))
    where
      by : (i < count_of s.rules) ⊎ (count_of s.rules ≤ i) → Chosen i v
      by (inl l) =
          let t = rule_text s.rules fit i (omega arith) in
          let r = rule (rules_in s.rules) i in
          let same : v ≡ r.variables = eqb-true v r.variables (sym (e ∙ here s.rules fit i v l)) in
          let text : text_of s (OfRule i) ≡ get_or s.rules i [] = ap (λ b. cond b (get_or s.rules i []) []) (lt-ltb i (count_of s.rules) l) in
          record {
            few = omega (arith, t.fit.few_variables);
            comes = λ table first us n k.
                record {
                  terms = us;
                  listed = k;
                  own = r.head ∷ r.goals;
                  in_text = ap (drop 5) (text ∙ t.bytes);
                  declared = subst (λ m. AllFit m (r.head ∷ r.goals)) (sym (n ∙ same)) t.fit.declared;
                  short = rule_short i;
                  due = [];
                  in_slip = refl;
                  is = refl;
                };
          }
      by (inr l) = let f = nowhere s.rules fit i v l in absurd cc
