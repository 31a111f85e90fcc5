-- The present terms of cells under a trail, and after a try. Assumes nothing.
use Rattle.std.proofs.Common.{◌≡◌, ℕ, zero, suc, ◌+◌, ◌-◌, ◌<◌, ◌≤◌, List, [], ◌∷◌, ◌++◌, map, length, take, drop, sym, refl, ap, ◌∙◌, ap₂, arith}
use lib.ListN.{length-map}
use Rattle.std.proofs.lemmas.List.{take-map, drop-map}
use Rattle.terms.specs.Terms.{Term, var, atom, pair}
use Rattle.unification.specs.Variables.{shifted, Within}
use Rattle.unification.specs.Substitutions.{Substitution, apply}
use Rattle.resolution.specs.Cells.{fresh, cell, present}
use Rattle.resolution.proofs.Cells.{fresh_length, stepped, map-append}
use Rattle.bindings.specs.Cells.{Cell}
use Rattle.bindings.specs.Meanings.{Trail, meaning}
use Rattle.bindings.specs.Trails.{trail, Sound}
use Rattle.bindings.specs.Presents.{presents}
use Rattle.bindings.proofs.Meanings.{meaning_atom, meaning_pair}
use Rattle.bindings.proofs.Links.{sound_free, sound_unused}

cell_meaning : (L : Trail) (n m k : ℕ) → k < m → cell (map (meaning L) (fresh n m)) k ≡ meaning L (var (n + k))
cell_meaning L n zero k h = absurd (omega (arith, h))
cell_meaning L n (suc m) zero h = ap (λ (x : ℕ). meaning L (var x)) (omega arith)
cell_meaning L n (suc m) (suc k) h = cell_meaning L (suc n) m k (omega (arith, h)) ∙ ap (λ (x : ℕ). meaning L (var x)) (omega arith)

-- A term over cells in use has their present terms as its meaning.
pub present_meaning : (L : Trail) (n : ℕ) (t : Term) → Within n t → present (presents L n) t ≡ meaning L t
present_meaning L n (var k) h = cell_meaning L 0 n k h ∙ ap (λ (x : ℕ). meaning L (var x)) (omega arith)
present_meaning L n (atom a) h = sym (meaning_atom L a)
present_meaning L n (pair s t) h = ap₂ pair (present_meaning L n s h.0) (present_meaning L n t h.1) ∙ sym (meaning_pair L s t)

pub presents_length : (L : Trail) (n : ℕ) → length (presents L n) ≡ n
presents_length L n = length-map (fresh 0 n) (meaning L) ∙ fresh_length 0 n

fresh_more : (n m k : ℕ) → fresh n (m + k) ≡ fresh n m ++ fresh (n + m) k
fresh_more n zero k = ap₂ fresh (omega arith) (omega arith)
fresh_more n (suc m) k =
    let e : suc m + k ≡ suc (m + k) = omega arith in
    let f : suc n + m ≡ n + suc m = omega arith in
    ap (fresh n) e ∙ ap (λ (ts : List Term). var n ∷ ts) (fresh_more (suc n) m k ∙ ap (λ (x : ℕ). fresh (suc n) m ++ fresh x k) f)

part_fresh : (n m k c : ℕ) → k + c ≤ m → take c (drop k (fresh n m)) ≡ fresh (n + k) c
part_fresh n m zero zero h = refl
part_fresh n zero zero (suc c) h = absurd (omega (arith, h))
part_fresh n (suc m) zero (suc c) h =
    let e : n ≡ n + 0 = omega arith in
    ap₂ (λ (x : ℕ) (ts : List Term). var x ∷ ts) e (part_fresh (suc n) m zero c (omega (arith, h)) ∙ ap (λ (x : ℕ). fresh x c) (omega arith))
part_fresh n zero (suc k) c h = absurd (omega (arith, h))
part_fresh n (suc m) (suc k) c h = part_fresh (suc n) m k c (omega (arith, h)) ∙ ap (λ (x : ℕ). fresh x c) (omega arith)

-- The present terms of some cells in a row.
pub presents_part : (L : Trail) (n from many : ℕ) → from + many ≤ n → take many (drop from (presents L n)) ≡ map (meaning L) (fresh from many)
presents_part L n from many h =
    ap (take many) (drop-map (meaning L) from (fresh 0 n))
    ∙ take-map (meaning L) many (drop from (fresh 0 n))
    ∙ ap (map (meaning L)) (part_fresh 0 n from many h ∙ ap (λ (x : ℕ). fresh x many) (omega arith))

-- What is applied to the meaning of each term is applied to them all.
pub map_apply : (σ : Substitution) (L M : Trail) → ((t : Term) → meaning M t ≡ apply σ (meaning L t)) → (ts : List Term) → map (meaning M) ts ≡ map (apply σ) (map (meaning L) ts)
map_apply σ L M e [] = refl
map_apply σ L M e (t ∷ ts) = ap₂ ◌∷◌ (e t) (map_apply σ L M e ts)

module _ {text : List ℕ} {n : ℕ} {cs : List Cell} {h : ℕ} (sound : Sound text n cs h) where
  -- Fresh cells mean themselves.
  meaning_new : (m k : ℕ) → n ≤ m → map (meaning (trail text cs h)) (fresh m k) ≡ fresh m k
  meaning_new m zero l = refl
  meaning_new m (suc k) l = ap₂ ◌∷◌ (sound_free sound m (sound_unused sound m l)) (meaning_new (suc m) k (omega (arith, l)))

  -- A term over fresh cells means itself.
  pub meaning_fresh : (m : ℕ) (t : Term) → n ≤ m → meaning (trail text cs h) (shifted m t) ≡ shifted m t
  meaning_fresh m (var x) l = sound_free sound (m + x) (sound_unused sound (m + x) (omega (arith, l)))
  meaning_fresh m (atom a) l = meaning_atom (trail text cs h) a
  meaning_fresh m (pair s t) l = meaning_pair (trail text cs h) (shifted m s) (shifted m t) ∙ ap₂ pair (meaning_fresh m s l) (meaning_fresh m t l)

  -- The cells after a try that took v fresh ones and found σ are those that the search defines.
  pub presents_stepped : (σ : Substitution) (v : ℕ) (M : Trail) → ((t : Term) → meaning M t ≡ apply σ (meaning (trail text cs h) t))
      → presents M (n + v) ≡ stepped σ (presents (trail text cs h) n) v
  presents_stepped σ v M e =
      let L = trail text cs h in
      map_apply σ L M e (fresh 0 (n + v))
      ∙ ap (λ (ts : List Term). map (apply σ) (map (meaning L) ts)) (fresh_more 0 n v)
      ∙ ap (map (apply σ)) (map-append (meaning L) (fresh 0 n) (fresh (0 + n) v) ∙ ap (λ (ts : List Term). presents L n ++ ts) (ap (λ (x : ℕ). map (meaning L) (fresh x v)) zero_plus ∙ meaning_new n v (omega arith) ∙ ap (λ (x : ℕ). fresh x v) (sym (presents_length L n))))
    where
      zero_plus : 0 + n ≡ n
      zero_plus = omega arith

-- Cells that are gone through one by one: none is done, one more is, all are.
module _ (L : Trail) (to : ℕ) where
  abbrev pub cells_from : ℕ → List Term
  cells_from c = map (meaning L) (fresh c (to - c))

  pub cells_none : (from many : ℕ) → to ≡ from + many → map (meaning L) (fresh from many) ≡ cells_from from
  cells_none from many h = ap (λ (k : ℕ). map (meaning L) (fresh from k)) (omega (arith, h))

  pub cells_more : (c : ℕ) → c < to → cells_from c ≡ meaning L (var c) ∷ cells_from (c + 1)
  cells_more c h =
      let e : to - c ≡ suc (to - (c + 1)) = omega arith in
      let f : suc c ≡ c + 1 = omega arith in
      ap (λ (k : ℕ). map (meaning L) (fresh c k)) e ∙ ap (λ (n : ℕ). meaning L (var c) ∷ map (meaning L) (fresh n (to - (c + 1)))) f

  pub cells_all : (c : ℕ) → to ≤ c → cells_from c ≡ []
  cells_all c h = let e : to - c ≡ 0 = omega arith in ap (λ (k : ℕ). map (meaning L) (fresh c k)) e
