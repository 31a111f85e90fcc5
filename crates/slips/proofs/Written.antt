-- What is written as an answer or a slip is read as it. Assumes nothing.
use Rattle.std.proofs.Common.{◌≡◌, ℕ, zero, suc, ◌+◌, ◌*◌, ◌/◌, ◌%◌, ◌<◌, ◌≤◌, true, false, ◌&&◌, eqb, ltb, List, [], ◌∷◌, ◌++◌, map, length, drop, Ok, Result, sym, refl, ap, ◌∙◌, append_assoc, append-nil, arith}
use Rattle.std.proofs.lemmas.List.{drop-drop, drop_at}
use Rattle.std.proofs.lemmas.Bool.{eq-eqb, lt-ltb, and_from}
use Rattle.terms.specs.declared.Form.TheVariants.{Slips}
use Rattle.terms.specs.Terms.{Term, var, atom, pair, Rule}
use Rattle.terms.specs.Bytes.{two, encodings, AllFit}
use Rattle.grammar.specs.TermCommands.{commands, terms}
use Rattle.grammar.proofs.Taking.{place_first}
use Rattle.grammar.proofs.Encoded.{decoded_all}
use Rattle.resolution.specs.Rules.{rule}
use Rattle.resolution.specs.Cells.{present}
use Rattle.resolution.specs.Limits.{step_limit}
use Rattle.slips.specs.declared.faults.CheckFault.{CheckFault}
use Rattle.slips.specs.Slips.{step_byte, end_byte, SlipStep, Slip, answer_bytes, step_bytes, steps_bytes, slip_bytes}
use Rattle.slips.specs.Checker.{unknowns, no_number, placed, terms_at, begins, is_only, step_operands, step_size, has_rule, same, step}
use Rattle.slips.specs.Reading.{answer_in, steps_in, slip_in}

-- the bytes after some that stand at p
pub ahead : (p : ℕ) (slip bs rest : List ℕ) → drop p slip ≡ bs ++ rest → drop (p + length bs) slip ≡ rest
ahead p slip bs rest d = sym (drop-drop (length bs) p slip) ∙ ap (drop (length bs)) d ∙ drop_at bs rest (length bs) refl

-- terms that stand at p are read there
pub terms_written : (slip : List ℕ) (p n : ℕ) (ts : List Term) (rest : List ℕ) → drop p slip ≡ encodings Slips ts ++ rest → length ts ≡ n → AllFit unknowns ts
    → terms_at n p slip ≡ Ok (ts, p + length (encodings Slips ts))
terms_written slip p n ts rest d l f =
    ap (λ m. terms_at m p slip) (sym l)
    ∙ ap (λ bs. placed (terms unknowns (length ts) (commands Slips p bs))) d
    ∙ ap placed (decoded_all Slips unknowns p ts rest f)
    ∙ ap (λ m. Ok (ts, m)) (place_first Slips (p + length (encodings Slips ts)) rest)

whole : (n : ℕ) → n / 256 * 256 + n % 256 ≡ n
whole n = omega arith

-- the bytes of a step behind its first
module _ (slip : List ℕ) (p : ℕ) (s : SlipStep) (rest : List ℕ) (d : drop p slip ≡ step_bytes s ++ rest) where
  begins_step : begins step_byte (drop p slip) ≡ true
  begins_step = ap (begins step_byte) d

  not_end : is_only end_byte (drop p slip) ≡ false
  not_end = ap (is_only end_byte) d

  operands_written : step_operands p (drop (suc p) slip) ≡ Ok (s.rule, length s.terms)
  operands_written =
      ap (λ m. step_operands p (drop m slip)) (let e : suc p ≡ p + 1 = omega arith in e)
      ∙ ap (step_operands p) (ahead p slip (step_byte ∷ []) (drop 1 (step_bytes s ++ rest)) d)
      ∙ ap (λ i. Ok (i, length s.terms)) (whole s.rule)

  step_terms : AllFit unknowns s.terms → terms_at (length s.terms) (p + step_size) slip ≡ Ok (s.terms, p + length (step_bytes s))
  step_terms f =
      terms_written slip (p + step_size) (length s.terms) s.terms rest
      (ahead p slip (step_byte ∷ (two s.rule ++ (length s.terms ∷ []))) (encodings Slips s.terms ++ rest) d) refl f
      ∙ ap (λ m. Ok (s.terms, m)) (let e : p + step_size + length (encodings Slips s.terms) ≡ p + length (step_bytes s) = omega arith in e)

-- ── the checker ──

pub same_itself : (t : Term) → same t t ≡ true
same_itself (var x) = eq-eqb x x refl
same_itself (atom a) = eq-eqb a a refl
same_itself (pair s t) = and_from (same s s) (same t t) (same_itself s) (same_itself t)

-- a step that stands in the slip, whose rule is there and whose head becomes the goal, passes
pub step_passes : (rs : List Rule) (slip : List ℕ) (n p : ℕ) (g : Term) (more : List Term → ℕ → Result Unit CheckFault) (s : SlipStep) (rest : List ℕ)
    → drop p slip ≡ step_bytes s ++ rest → n < step_limit → s.rule < length rs → s.rule < no_number → length s.terms ≡ (rule rs s.rule).variables
    → AllFit unknowns s.terms → present s.terms (rule rs s.rule).head ≡ g
    → step rs slip n p g more ≡ more (map (present s.terms) (rule rs s.rule).goals) (p + length (step_bytes s))
step_passes rs slip n p g more s rest d l there few count f e = rw (h1, h2, h3, h4, h5, h6) refl
  where
    h1 : begins step_byte (drop p slip) ≡ true
    h1 = begins_step slip p s rest d

    h2 : step_operands p (drop (suc p) slip) ≡ Ok (s.rule, length s.terms)
    h2 = operands_written slip p s rest d

    h3 : ltb n step_limit ≡ true
    h3 = lt-ltb n step_limit l

    h4 : has_rule rs s.rule (length s.terms) ≡ true
    h4 =
        and_from (ltb s.rule (length rs)) (ltb s.rule no_number && eqb (length s.terms) (rule rs s.rule).variables) (lt-ltb s.rule (length rs) there)
        (and_from (ltb s.rule no_number) (eqb (length s.terms) (rule rs s.rule).variables) (lt-ltb s.rule no_number few)
        (eq-eqb (length s.terms) (rule rs s.rule).variables count))

    h5 : terms_at (length s.terms) (p + step_size) slip ≡ Ok (s.terms, p + length (step_bytes s))
    h5 = step_terms slip p s rest d f

    h6 : same (present s.terms (rule rs s.rule).head) g ≡ true
    h6 = ap (same (present s.terms (rule rs s.rule).head)) (sym e) ∙ same_itself (present s.terms (rule rs s.rule).head)

-- ── reading back ──

-- the terms of each step fit
abbrev pub FitSteps : List SlipStep → Type 0
FitSteps [] = Unit {0}
FitSteps (s ∷ ss) = AllFit unknowns s.terms × FitSteps ss

pub record FitSlip (s : Slip) : Type 0 where
  pub first_fit : AllFit unknowns s.terms
  pub steps_fit : FitSteps s.steps
  pub few : length s.steps ≤ step_limit

steps_back : (slip : List ℕ) (left p : ℕ) (ss : List SlipStep) → drop p slip ≡ steps_bytes ss ++ (end_byte ∷ []) → length ss ≤ left → FitSteps ss
    → steps_in slip left p ≡ Ok ss
steps_back slip zero p [] d l f = rw d refl
steps_back slip (suc left) p [] d l f = rw d refl
steps_back slip zero p (s ∷ ss) d l f = absurd (omega (arith, l))
steps_back slip (suc left) p (s ∷ ss) d l f =
    let again : steps_in slip left (p + length (step_bytes s)) ≡ Ok ss = steps_back slip left (p + length (step_bytes s)) ss (ahead p slip (step_bytes s) rest at) (omega (arith, l)) f.1 in
    rw (h1, h2, h3, h4, again) refl
  where
    rest : List ℕ
    rest = steps_bytes ss ++ (end_byte ∷ [])

    at : drop p slip ≡ step_bytes s ++ rest
    at = d ∙ append_assoc (step_bytes s) (steps_bytes ss) (end_byte ∷ [])

    h1 : is_only end_byte (drop p slip) ≡ false
    h1 = not_end slip p s rest at

    h2 : begins step_byte (drop p slip) ≡ true
    h2 = begins_step slip p s rest at

    h3 : step_operands p (drop (suc p) slip) ≡ Ok (s.rule, length s.terms)
    h3 = operands_written slip p s rest at

    h4 : terms_at (length s.terms) (p + step_size) slip ≡ Ok (s.terms, p + length (step_bytes s))
    h4 = step_terms slip p s rest at f.0

pub answer_back : (s : Slip) → FitSlip s → answer_in (answer_bytes s) ≡ Ok s.terms
answer_back s f = rw (h1, h2) refl
  where
    h1 : terms_at (length s.terms) 2 (answer_bytes s) ≡ Ok (s.terms, 2 + length (encodings Slips s.terms))
    h1 = terms_written (answer_bytes s) 2 (length s.terms) s.terms [] (sym (append-nil (encodings Slips s.terms))) refl f.first_fit

    h2 : eqb (2 + length (encodings Slips s.terms)) (length (answer_bytes s)) ≡ true
    h2 = eq-eqb (2 + length (encodings Slips s.terms)) (length (answer_bytes s)) (omega arith)

pub slip_back : (s : Slip) → FitSlip s → slip_in (slip_bytes s) ≡ Ok s
slip_back s f = rw (h1, h2) refl
  where
    rest : List ℕ
    rest = steps_bytes s.steps ++ (end_byte ∷ [])

    h1 : terms_at (length s.terms) 2 (slip_bytes s) ≡ Ok (s.terms, 2 + length (encodings Slips s.terms))
    h1 = terms_written (slip_bytes s) 2 (length s.terms) s.terms rest refl refl f.first_fit

    h2 : steps_in (slip_bytes s) step_limit (2 + length (encodings Slips s.terms)) ≡ Ok s.steps
    h2 =
        steps_back (slip_bytes s) step_limit (2 + length (encodings Slips s.terms)) s.steps
        (ahead 2 (slip_bytes s) (encodings Slips s.terms) rest refl) f.few f.steps_fit
