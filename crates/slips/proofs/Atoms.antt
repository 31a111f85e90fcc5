-- Every atom of a search has a number of two bytes where rules and query have only such. Assumes nothing.
use Rattle.std.proofs.Common.{ℕ, zero, suc, ◌<◌, ◌≤◌, List, [], ◌∷◌, ◌++◌, map, length, arith}
use Rattle.terms.specs.Terms.{Term, var, atom, pair, Rule}
use Rattle.terms.specs.Bytes.{Fits, AllFit}
use Rattle.unification.specs.Variables.{shifted}
use Rattle.unification.specs.Substitutions.{apply}
use Rattle.unification.proofs.Within.{Keeps, unify_keeps}
use Rattle.resolution.specs.Rules.{rule}
use Rattle.resolution.specs.Cells.{fresh}
use Rattle.resolution.specs.Lines.{Step}
use Rattle.resolution.proofs.Sessions.{Stays}
use Rattle.slips.specs.Slips.{renumbered}
use Rattle.slips.proofs.Unknowns.{Known, AllKnown, position_below}

-- each atom of the term has a number of two bytes
abbrev pub Small : Term → Type 0
Small (var x) = Unit {0}
Small (atom a) = a < 65536
Small (pair s t) = Small s × Small t

abbrev pub AllSmall : List Term → Type 0
AllSmall [] = Unit {0}
AllSmall (t ∷ ts) = Small t × AllSmall ts

pub fits_small : (v : ℕ) (t : Term) → Fits v t → Small t
fits_small v (var x) h = tt
fits_small v (atom a) h = h
fits_small v (pair s t) h = (fits_small v s h.0, fits_small v t h.1)

pub all_fits_small : (v : ℕ) (ts : List Term) → AllFit v ts → AllSmall ts
all_fits_small v [] h = tt
all_fits_small v (t ∷ ts) h = (fits_small v t h.0, all_fits_small v ts h.1)

small_append : (ss ts : List Term) → AllSmall ss → AllSmall ts → AllSmall (ss ++ ts)
small_append [] ts h k = k
small_append (s ∷ ss) ts h k = (h.0, small_append ss ts h.1 k)

small_map : (f : Term → Term) → ((t : Term) → Small t → Small (f t)) → (ts : List Term) → AllSmall ts → AllSmall (map f ts)
small_map f h [] k = tt
small_map f h (t ∷ ts) k = (h t k.0, small_map f h ts k.1)

small_shifted : (n : ℕ) (t : Term) → Small t → Small (shifted n t)
small_shifted n (var x) h = tt
small_shifted n (atom a) h = h
small_shifted n (pair s t) h = (small_shifted n s h.0, small_shifted n t h.1)

pub small_fresh : (n k : ℕ) → AllSmall (fresh n k)
small_fresh n zero = tt
small_fresh n (suc k) = (tt, small_fresh (suc n) k)

abbrev pub SmallRules : List Rule → Type 0
SmallRules [] = Unit {0}
SmallRules (r ∷ rs) = (Small r.head × AllSmall r.goals) × SmallRules rs

small_rule : (rs : List Rule) (i : ℕ) → SmallRules rs → Small (rule rs i).head × AllSmall (rule rs i).goals
small_rule [] i h = (omega arith, tt)
small_rule (r ∷ rs) zero h = h.0
small_rule (r ∷ rs) (suc i) h = small_rule rs i h.1

abbrev pub SmallPlace : List Term → List Term → List Step → Type 0
SmallPlace goals cells fs = AllSmall goals × AllSmall cells

pub small_stays : (rs : List Rule) → SmallRules rs → Stays rs SmallPlace
small_stays rs small g rest due cells fs σ l s e h = (
  small_map (apply σ) keeps (map (shifted n) (rule rs due).goals ++ rest)
      (small_append (map (shifted n) (rule rs due).goals) rest (small_map (shifted n) (small_shifted n) (rule rs due).goals r.1) h.0.1),
  small_map (apply σ) keeps (cells ++ fresh n (rule rs due).variables) (small_append cells (fresh n (rule rs due).variables) h.1 (small_fresh n (rule rs due).variables)),
)
  where
    n : ℕ
    n = length cells

    r : Small (rule rs due).head × AllSmall (rule rs due).goals
    r = small_rule rs due small

    keeps : Keeps Small σ
    keeps = unify_keeps Small (λ s t b c. (b, c)) (λ s t b. b) (shifted n (rule rs due).head) g σ e (small_shifted n (rule rs due).head r.0) h.0.0

-- small terms whose variables are known fit as terms of a slip
renumbered_fits : (xs : List ℕ) (n : ℕ) → length xs ≤ n → (t : Term) → Known xs t → Small t → Fits n (renumbered xs t)
renumbered_fits xs n l (var x) k h = omega (arith, position_below x xs k, l)
renumbered_fits xs n l (atom a) k h = h
renumbered_fits xs n l (pair s t) k h = (renumbered_fits xs n l s k.0 h.0, renumbered_fits xs n l t k.1 h.1)

pub all_renumbered_fit : (xs : List ℕ) (n : ℕ) → length xs ≤ n → (ts : List Term) → AllKnown xs ts → AllSmall ts → AllFit n (map (renumbered xs) ts)
all_renumbered_fit xs n l [] k h = tt
all_renumbered_fit xs n l (t ∷ ts) k h = (renumbered_fits xs n l t k.0 h.0, all_renumbered_fit xs n l ts k.1 h.1)
