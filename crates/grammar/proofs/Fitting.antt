-- Fit rules in bytes. Assumes nothing.
use Rattle.std.proofs.Common.{◌≡◌, ℕ, zero, suc, ◌+◌, ◌<◌, ◌≤◌, true, ltb, List, [], ◌∷◌, ◌++◌, length, get_or, is_ok, Ok, Err, Result, refl, ap, arith}
use Rattle.std.proofs.lemmas.Bool.{ltb-true, lt-ltb, and_parts, and_from}
use Rattle.terms.specs.Terms.{Rule}
use Rattle.grammar.specs.declared.faults.SingleFault.{SingleFault}
use Rattle.grammar.specs.Singles.{rule}
use Rattle.grammar.specs.Encodings.{AllBytes, rule_bytes, FitRule}
use Rattle.grammar.specs.Texts.{all_bytes, fit, all_fit, total}
use Rattle.grammar.proofs.Alone.{rules_inverse}

pub bytes_known : (bs : List ℕ) → all_bytes bs ≡ true → AllBytes bs
bytes_known [] e = tt
bytes_known (b ∷ bs) e = let p = and_parts (ltb b 256) (all_bytes bs) e in (ltb-true b 256 p.0, bytes_known bs p.1)

pub bytes_told : (bs : List ℕ) → AllBytes bs → all_bytes bs ≡ true
bytes_told [] a = refl
bytes_told (b ∷ bs) a = and_from (ltb b 256) (all_bytes bs) (lt-ltb b 256 a.0) (bytes_told bs a.1)

-- the rule that fit bytes are
pub record FitText (bs : List ℕ) : Type 0 where
  pub r : Rule
  pub read : rule bs ≡ Ok r
  pub within : FitRule r
  pub bytes : bs ≡ rule_bytes r

pub fit_text : (bs : List ℕ) → fit bs ≡ true → FitText bs
fit_text bs e = by (rule bs) refl (and_parts (all_bytes bs) (is_ok (rule bs)) e).1
  where
    by : (x : Result Rule SingleFault) → rule bs ≡ x → is_ok x ≡ true → FitText bs
    by (Ok r) q h =
        let k = rules_inverse.only_encodings bs r (bytes_known bs (and_parts (all_bytes bs) (is_ok (rule bs)) e).0) q in
        record { r = r; read = q; within = k.0; bytes = k.1 }
    by (Err x) q h = let z : ◌≡◌ {A = ℕ} 0 1 = cc in absurd (omega arith)

pub fit_told : (bs : List ℕ) (r : Rule) → AllBytes bs → rule bs ≡ Ok r → fit bs ≡ true
fit_told bs r a e = and_from (all_bytes bs) (is_ok (rule bs)) (bytes_told bs a) (ap is_ok e)

-- a rule has at most 517 bytes
pub fit_short : (bs : List ℕ) → fit bs ≡ true → length bs ≤ 517
fit_short bs e =
    let t = fit_text bs e in
    let ts = t.r.head ∷ t.r.goals in
    omega (arith, ap length t.bytes, t.within.short)

pub fit_at : (ts : List (List ℕ)) (i : ℕ) → all_fit ts ≡ true → i < length ts → fit (get_or ts i []) ≡ true
fit_at [] i e l = absurd (omega arith)
fit_at (t ∷ ts) zero e l = (and_parts (fit t) (all_fit ts) e).0
fit_at (t ∷ ts) (suc i) e l = fit_at ts i (and_parts (fit t) (all_fit ts) e).1 (omega arith)

pub fit_push : (ts : List (List ℕ)) (t : List ℕ) → all_fit ts ≡ true → fit t ≡ true → all_fit (ts ++ t ∷ []) ≡ true
fit_push [] t e f = and_from (fit t) true f refl
fit_push (u ∷ ts) t e f =
    let p = and_parts (fit u) (all_fit ts) e in
    and_from (fit u) (all_fit (ts ++ t ∷ [])) p.0 (fit_push ts t p.1 f)

pub total_push : (ts : List (List ℕ)) (t : List ℕ) → total (ts ++ t ∷ []) ≡ total ts + length t
total_push [] t = omega arith
total_push (u ∷ ts) t = omega (arith, total_push ts t)
