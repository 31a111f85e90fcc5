-- What a change of a board returns and leaves. Assumes nothing.
use Rattle.std.proofs.Common.{◌≡◌, ℕ, zero, suc, ◌+◌, ◌<◌, ◌≤◌, Bool, true, false, ltb, leb, List, [], ◌∷◌, ◌++◌, length, take, drop, Ok, Err, Result, sym, refl, ap, ◌∙◌}
use Rattle.std.proofs.lemmas.Bool.{lt-ltb, le-ltb, le-leb, lt-leb, and_parts, and_from}
use Rattle.grammar.specs.Asking.{ask}
use Rattle.grammar.specs.Texts.{fit, all_fit, total}
use Rattle.grammar.proofs.Fitting.{fit_push}
use Rattle.boards.specs.declared.faults.AddFault.TheVariants.{Full, Large}
use Rattle.boards.specs.declared.faults.RemoveFault.TheVariants.{Missing}
use Rattle.boards.specs.Changes.{most_rules, most_bytes, pushed, removed, said, left}

-- a change that comes to s, with what it returned and the list afterwards
pub record Comes {E : Type 0} (s : Result (List (List ℕ)) E) (before : List (List ℕ)) (r : Result (Unit {0}) E) (after : List (List ℕ)) : Type 0 where
  pub value : r ≡ said s
  pub after_it : after ≡ left s before

comes : {E : Type 0} (s t : Result (List (List ℕ)) E) (before : List (List ℕ)) → s ≡ t → Comes s before (said t) (left t before)
comes s t before e = record { value = ap said (sym e); after_it = ap (λ x. left x before) (sym e) }

module _ (ts : List (List ℕ)) (t : List ℕ) where
  pub is_full : most_rules ≤ length ts → Comes (pushed ts t) ts (Err Full) ts
  is_full l = comes (pushed ts t) (Err Full) ts (ap (λ b. ask b Full (ask (leb (total ts + length t) most_bytes) Large (Ok (ts ++ t ∷ [])))) (le-ltb (length ts) most_rules l))

  module _ (l : length ts < most_rules) where
    few : pushed ts t ≡ ask (leb (total ts + length t) most_bytes) Large (Ok (ts ++ t ∷ []))
    few = ap (λ b. ask b Full (ask (leb (total ts + length t) most_bytes) Large (Ok (ts ++ t ∷ [])))) (lt-ltb (length ts) most_rules l)

    pub is_large : most_bytes < total ts + length t → Comes (pushed ts t) ts (Err Large) ts
    is_large m = comes (pushed ts t) (Err Large) ts (few ∙ ap (λ b. ask b Large (Ok (ts ++ t ∷ []))) (lt-leb (total ts + length t) most_bytes m))

    pub put_up : total ts + length t ≤ most_bytes → Comes (pushed ts t) ts (Ok tt) (ts ++ t ∷ [])
    put_up m = comes (pushed ts t) (Ok (ts ++ t ∷ [])) ts (few ∙ ap (λ b. ask b Large (Ok (ts ++ t ∷ []))) (le-leb (total ts + length t) most_bytes m))

module _ (ts : List (List ℕ)) (i : ℕ) where
  pub is_missing : length ts ≤ i → Comes (removed ts i) ts (Err Missing) ts
  is_missing l = comes (removed ts i) (Err Missing) ts (ap (λ b. ask b Missing (Ok (take i ts ++ drop (suc i) ts))) (le-ltb i (length ts) l))

  pub taken_down : i < length ts → Comes (removed ts i) ts (Ok tt) (take i ts ++ drop (suc i) ts)
  taken_down l = comes (removed ts i) (Ok (take i ts ++ drop (suc i) ts)) ts (ap (λ b. ask b Missing (Ok (take i ts ++ drop (suc i) ts))) (lt-ltb i (length ts) l))

-- ── every rule is fit ──

pub fit_pushed : (ts : List (List ℕ)) (t : List ℕ) → all_fit ts ≡ true → fit t ≡ true → all_fit (left (pushed ts t) ts) ≡ true
fit_pushed ts t e f = by (ltb (length ts) most_rules) (leb (total ts + length t) most_bytes)
  where
    by : (a b : Bool) → all_fit (left (ask a Full (ask b Large (Ok (ts ++ t ∷ [])))) ts) ≡ true
    by true true = fit_push ts t e f
    by true false = e
    by false b = e

without : (ts : List (List ℕ)) (i : ℕ) → all_fit ts ≡ true → all_fit (take i ts ++ drop (suc i) ts) ≡ true
without [] zero e = refl
without [] (suc i) e = refl
without (t ∷ ts) zero e = (and_parts (fit t) (all_fit ts) e).1
without (t ∷ ts) (suc i) e =
    let p = and_parts (fit t) (all_fit ts) e in
    and_from (fit t) (all_fit (take i ts ++ drop (suc i) ts)) p.0 (without ts i p.1)

pub fit_removed : (ts : List (List ℕ)) (i : ℕ) → all_fit ts ≡ true → all_fit (left (removed ts i) ts) ≡ true
fit_removed ts i e = by (ltb i (length ts))
  where
    by : (a : Bool) → all_fit (left (ask a Missing (Ok (take i ts ++ drop (suc i) ts))) ts) ≡ true
    by true = without ts i e
    by false = e
