-- The chain of bound cells, back to a mark. Assumes nothing.
use Rattle.std.proofs.Common.{◌≡◌, ℕ, zero, suc, ◌<◌, ◌≢◌, List, [], ◌∷◌, length, get_or, set, sym, refl, ap, ◌∙◌, subst, le_of_suc-le-suc, not-suc-le-zero, arith, length-set, get_or-set_other, get_or-set_same, set-set, Some, None}
use lib.Seq.{set-get_or}
use Rattle.bindings.specs.declared.Binding.{Binding}
use Rattle.bindings.specs.declared.TermAt.{TermAt}
use Rattle.bindings.specs.Cells.{Cell}
use Rattle.bindings.specs.Trails.{Back, Since, bound_count, free_count}

-- To free a bound cell lowers the count.
pub bound_count_less : (cs : List Cell) (i : ℕ) (b : Binding) → i < length cs → get_or cs i None ≡ Some b → bound_count (set cs i None) < bound_count cs
bound_count_less [] i b lt e = absurd (not-suc-le-zero lt)
bound_count_less (c ∷ cs) zero b lt e = rw e (omega arith)
bound_count_less (c ∷ cs) (suc i) b lt e = let h = bound_count_less cs i b (le_of_suc-le-suc lt) e in omega arith

-- And makes one more free.
pub free_count_more : (cs : List Cell) (i : ℕ) (b : Binding) → i < length cs → get_or cs i None ≡ Some b → free_count (set cs i None) ≡ suc (free_count cs)
free_count_more [] i b lt e = absurd (not-suc-le-zero lt)
free_count_more (c ∷ cs) zero b lt e = rw e (omega arith)
free_count_more (c ∷ cs) (suc i) b lt e = let h = free_count_more cs i b (le_of_suc-le-suc lt) e in omega arith

-- The newest bound cell, and the chain from the one before it.
pub record Stepped (was : List Cell) (m : ℕ) (cs : List Cell) (h : ℕ) : Type 0 where
  pub binding : Binding
  pub inside : h < length cs
  pub is : get_or cs h None ≡ Some binding
  pub rest : Since was m (set cs h None) binding.before

-- One step back, where the chain has not come to its mark.
pub step_back : {was : List Cell} {m : ℕ} {cs : List Cell} {h : ℕ} → (h ≡ m → ⊥) → Since was m cs h → Stepped was m cs h
unfolding Back
step_back {was} {m} {cs} {h} ne s = go s.links s.chain where
  go : (n : ℕ) → Back n was m cs h → Stepped was m cs h
  go zero c = absurd (ne c.1)
  go (suc n) c =
      record {
        binding = c.2.0;
        inside = c.0;
        is = c.2.1;
        rest =
            record {
              mark = λ lt f. let other : m ≢ h = λ e. ne (sym e) in s.mark (rw length-set at lt) (rw get_or-set_other at f);
              links = n;
              chain = c.2.2;
            };
      }

-- The same, where the cell is known.
pub step_on : {was : List Cell} {m : ℕ} {cs : List Cell} {h : ℕ} {b : Binding} → get_or cs h None ≡ Some b → Stepped was m cs h → Since was m (set cs h None) b.before
step_on {was} {m} {cs} {h} {b} e s = let q : s.binding ≡ b = cc in subst (λ (x : Binding). Since was m (set cs h None) x.before) q s.rest

-- At the mark nothing is left to take back.
pub at_mark : {was : List Cell} {m : ℕ} {cs : List Cell} → Since was m cs m → cs ≡ was
unfolding Back
at_mark {was} {m} {cs} s = go s.links s.chain where
  go : (n : ℕ) → Back n was m cs m → cs ≡ was
  go zero c = c.0
  go (suc n) c = absurd (c.1 refl)

-- A free cell bound and freed again.
pub back_cells : (cs : List Cell) (i : ℕ) (c : Cell) → get_or cs i None ≡ None → set (set cs i c) i None ≡ cs
back_cells cs i c fr = set-set cs i c None ∙ ap (λ (x : Cell). set cs i x) (sym fr) ∙ set-get_or cs i None

-- A free cell bound goes on the chain.
pub bind_since : (was : List Cell) (m : ℕ) (cs : List Cell) (h i : ℕ) (t : TermAt) → i < length cs → get_or cs i None ≡ None
    → Since was m cs h → Since was m (set cs i (Some (record { term = t; before = h }))) i
unfolding Back
bind_since was m cs h i t lt fr s =
    record {
      mark = λ ml f. let ne : m ≢ i = λ e. i_not_m (sym e) in s.mark (rw length-set at ml) (rw get_or-set_other at f);
      links = suc s.links;
      chain = (
        (rw length-set lt),
        i_not_m,
        (b, get_or-set_same cs i (Some b) None lt, subst (λ (ds : List Cell). Back s.links was m ds h) (sym (back_cells cs i (Some b) fr)) s.chain),
      );
    }
  where
    b : Binding
    b = record { term = t; before = h }

    i_not_m : i ≡ m → ⊥
    i_not_m e = s.mark (subst (λ (x : ℕ). x < length cs) e lt) (subst (λ (x : ℕ). get_or cs x None ≡ None) e fr)
