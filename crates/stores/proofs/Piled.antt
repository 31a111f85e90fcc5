-- What one list after another answers. Assumes nothing.
use Rattle.std.proofs.Common.{◌≡◌, ℕ, ◌+◌, ◌-◌, ◌<◌, ◌≤◌, min, cond, Bool, true, false, ltb, List, [], ◌++◌, length, get_or, Some, None, Option, sym, refl, ap, ◌∙◌, ⊎_elim, arith, length-append}
use Rattle.std.proofs.lemmas.List.{get_or_append_left, get_or-append_right}
use Rattle.std.proofs.lemmas.Bool.{lt-ltb, le-ltb, ltb-true, ltb-false, cases_lt}
use Rattle.stores.specs.Answers.{no_number, count_of, of_rule}
use Rattle.stores.specs.Sides.{side_of}
use Rattle.stores.specs.declared.piles.Side.TheVariants.{Upper, Lower}

-- a rule that is there, and one that is not
pub there : {X : Type 0} (ask : List ℕ → Option X) (ts : List (List ℕ)) (i : ℕ) → i < count_of ts → of_rule ask ts i ≡ ask (get_or ts i [])
there ask ts i l = ap (λ b. cond b (ask (get_or ts i [])) None) (lt-ltb i (count_of ts) l)

pub not_there : {X : Type 0} (ask : List ℕ → Option X) (ts : List (List ℕ)) (i : ℕ) → count_of ts ≤ i → of_rule ask ts i ≡ None
not_there ask ts i l = ap (λ b. cond b (ask (get_or ts i [])) None) (le-ltb i (count_of ts) l)

module _ (ts us : List (List ℕ)) where
  pub count_both : min (count_of ts + count_of us) no_number ≡ count_of (ts ++ us)
  count_both = omega (arith, length-append ts us)

  module _ {X : Type 0} (ask : List ℕ → Option X) (i : ℕ) where
    -- above the seam
    pub upper : i < count_of ts → of_rule ask ts i ≡ of_rule ask (ts ++ us) i
    upper l =
        let long = length-append ts us in
        there ask ts i l
        ∙ ap ask (sym (get_or_append_left ts us [] i (omega arith)))
        ∙ sym (there ask (ts ++ us) i (omega arith))

    -- below the seam
    pub lower : count_of ts ≤ i → i < no_number → of_rule ask us (i - count_of ts) ≡ of_rule ask (ts ++ us) i
    lower l n = ⊎_elim inside outside (cases_lt (i - length ts) (length us))
      where
        all : count_of ts ≡ length ts
        all = omega arith

        inside : i - length ts < length us → of_rule ask us (i - count_of ts) ≡ of_rule ask (ts ++ us) i
        inside h =
            let long = length-append ts us in
            let here : i - count_of ts ≡ i - length ts = ap (λ m. i - m) all in
            there ask us (i - count_of ts) (omega arith)
            ∙ ap (λ m. ask (get_or us m [])) here
            ∙ ap ask (sym (get_or-append_right ts us (length ts) i [] refl (omega arith)))
            ∙ sym (there ask (ts ++ us) i (omega arith))

        outside : length us ≤ i - length ts → of_rule ask us (i - count_of ts) ≡ of_rule ask (ts ++ us) i
        outside h =
            let long = length-append ts us in
            not_there ask us (i - count_of ts) (omega arith) ∙ sym (not_there ask (ts ++ us) i (omega arith))

-- the lower store has the rule
pub below : (n i j : ℕ) → Some (Lower j) ≡ side_of n i → (n ≤ i) × (i < no_number) × (j ≡ i - n)
below n i j e = by (ltb i no_number) (ltb i n) refl refl e
  where
    by : (s t : Bool) → ltb i no_number ≡ s → ltb i n ≡ t → Some (Lower j) ≡ cond s (Some (cond t (Upper i) (Lower (i - n)))) None → (n ≤ i) × (i < no_number) × (j ≡ i - n)
    by true false p q e = (ltb-false i n q, ltb-true i no_number p, (let same : j ≡ i - n = cc in same))
    by true true p q e = let z : ◌≡◌ {A = ℕ} 0 1 = cc in absurd (omega arith)
    by false t p q e = let z : ◌≡◌ {A = ℕ} 0 1 = cc in absurd (omega arith)
