-- Each binding that unification makes takes a variable away. Assumes nothing.
use mathlib.Core.Path.{◌≡◌, refl, sym, ◌∙◌, ap, subst}
use mathlib.Core.Bool.{Bool, true, false, cond}
use mathlib.Core.List.{List, [], ◌∷◌, ◌++◌}
use mathlib.Core.Logic.{◌⊎◌, inl, inr}
use mathlib.Core.Option.{Option, none, some}
use Prim.Native.Nat.{ℕ, zero, suc, ◌+◌, ◌≤◌, ◌<◌}
use native.Mathlib.Omega.{arith}
use lib.Dec.{T, eqb, eqb_refl}
use lib.ListN.{length, length-append}
use Rattle.terms.specs.Terms.{Term, var, atom, pair}
use Rattle.unification.specs.Variables.{is_variable, occurs, occurrences}
use Rattle.unification.specs.Substitutions.{put, Substitution, apply}
use Rattle.unification.specs.Unification.{Unifier, bind, meet, followed, rests_by, unify_by, unify_within}
use Rattle.unification.proofs.Choice.{T→true, cond_at}
use Rattle.unification.proofs.Substitutions.{apply_append}

abbrev pub In : ℕ → List ℕ → Type 0
In x [] = ⊥
In x (y ∷ ys) = (x ≡ y) ⊎ In x ys

-- each variable of the term is in the list
abbrev pub Over : List ℕ → Term → Type 0
Over L (var x) = In x L
Over L (atom a) = Unit {0}
Over L (pair s t) = Over L s × Over L t

abbrev keep : Bool → ℕ → List ℕ → List ℕ
keep true y ys = ys
keep false y ys = y ∷ ys

-- the list without x
abbrev without : ℕ → List ℕ → List ℕ
without x [] = []
without x (y ∷ ys) = keep (eqb x y) y (without x ys)

keep_length : (b : Bool) (y : ℕ) (ys : List ℕ) → length (keep b y ys) ≤ suc (length ys)
keep_length true y ys = omega arith
keep_length false y ys = omega arith

without_length : (x : ℕ) (L : List ℕ) → length (without x L) ≤ length L
without_length x [] = omega arith
without_length x (y ∷ ys) = omega (arith, without_length x ys, keep_length (eqb x y) y (without x ys))

without_less : (x : ℕ) (L : List ℕ) → In x L → length (without x L) < length L
without_less x [] i = absurd i
without_less x (y ∷ ys) (inl e) =
    subst (λ (b : Bool). length (keep b y (without x ys)) < suc (length ys)) (sym (T→true (eqb x y) (subst (λ (z : ℕ). T (eqb x z)) e (eqb_refl x))))
    (omega (arith, without_length x ys))
without_less x (y ∷ ys) (inr i) = omega (arith, without_less x ys i, keep_length (eqb x y) y (without x ys))

keep_in : (z : ℕ) (b : Bool) (y : ℕ) (ys : List ℕ) → In z ys → In z (keep b y ys)
keep_in z true y ys i = i
keep_in z false y ys i = inr i

keep_head : (x z : ℕ) (y : ℕ) (ys : List ℕ) (b : Bool) → eqb x y ≡ b → eqb x z ≡ false → z ≡ y → In z (keep b y ys)
keep_head x z y ys true e k p = absurd (subst T (sym (ap (eqb x) p ∙ e) ∙ k) tt)
keep_head x z y ys false e k p = inl p

without_in : (x z : ℕ) (L : List ℕ) → eqb x z ≡ false → In z L → In z (without x L)
without_in x z [] k i = i
without_in x z (y ∷ ys) k (inl e) = keep_head x z y (without x ys) (eqb x y) refl k e
without_in x z (y ∷ ys) k (inr i) = keep_in z (eqb x y) y (without x ys) (without_in x z ys k i)

over_pair : (x : ℕ) (L : List ℕ) (s t : Term) (b : Bool) → occurs x s ≡ b → cond b true (occurs x t) ≡ false
    → (occurs x s ≡ false → Over (without x L) s) → (occurs x t ≡ false → Over (without x L) t) → Over (without x L) s × Over (without x L) t
over_pair x L s t true e k f g = absurd (subst T k tt)
over_pair x L s t false e k f g = (f e, g k)

-- a term over the list in which x does not occur is over the list without x
over_absent : (x : ℕ) (L : List ℕ) (t : Term) → occurs x t ≡ false → Over L t → Over (without x L) t
over_absent x L (var y) k o = without_in x y L k o
over_absent x L (atom a) k o = tt
over_absent x L (pair s t) k o = over_pair x L s t (occurs x s) refl k (λ e. over_absent x L s e o.0) (λ e. over_absent x L t e o.1)

over_put : (x : ℕ) (L : List ℕ) (s : Term) → Over (without x L) s → (t : Term) → Over L t → Over (without x L) (put x s t)
over_put x L s o (var y) i = cond_at (Over (without x L)) (eqb x y) (λ e. o) (λ e. without_in x y L e i)
over_put x L s o (atom a) i = tt
over_put x L s o (pair t u) i = (over_put x L s o t i.0, over_put x L s o u i.1)

-- the substitution brings terms over the list to a list that is shorter by the number of its bindings
pub record Shrink (L : List ℕ) (σ : Substitution) : Type 0 where
  pub left : List ℕ
  pub over : (t : Term) → Over L t → Over left (apply σ t)
  pub less : length left + length σ ≤ length L

abbrev pub Shrinks : List ℕ → Option Substitution → Type 0
Shrinks L none = Unit {0}
Shrinks L (some σ) = Shrink L σ

shrink_none : (L : List ℕ) → Shrink L []
shrink_none L = record { left = L; over = λ t o. o; less = omega arith }

shrink_then : (L : List ℕ) (σ τ : Substitution) (f : Shrink L σ) → Shrink f.left τ → Shrink L (σ ++ τ)
shrink_then L σ τ f g =
    record {
      left = g.left;
      over = λ t o. subst (Over g.left) (sym (apply_append σ τ t)) (g.over (apply σ t) (f.over t o));
      less = omega (arith, f.less, g.less, length-append σ τ);
    }

followed_shrinks : (L : List ℕ) (σ : Substitution) (f : Shrink L σ) (r : Option Substitution) → Shrinks f.left r → Shrinks L (followed σ r)
followed_shrinks L σ f none k = tt
followed_shrinks L σ f (some τ) k = shrink_then L σ τ f k

bind_shrinks : (L : List ℕ) (x : ℕ) (t : Term) → In x L → Over L t → Shrinks L (bind x t)
bind_shrinks L x t i o =
    cond_at (Shrinks L) (occurs x t) (λ e. tt)
    (λ e. record { left = without x L; over = over_put x L t (over_absent x L t e o); less = omega (arith, without_less x L i) })

meet_shrinks : (L : List ℕ) (x : ℕ) (t : Term) → In x L → Over L t → Shrinks L (meet x t)
meet_shrinks L x t i o = cond_at (Shrinks L) (is_variable x t) (λ e. shrink_none L) (λ e. bind_shrinks L x t i o)

abbrev pub AllShrink : Unifier → Type 0
AllShrink f = (L : List ℕ) (s t : Term) → Over L s → Over L t → Shrinks L (f s t)

module _ (fewer : Unifier) (shrinks : AllShrink fewer) (L : List ℕ) where
  rests_shrink : (b d : Term) (r : Option Substitution) → Shrinks L r → (same : Term → Option Substitution) → Shrinks L (same d) → Over L b → Over L d
      → Shrinks L (rests_by fewer r same b d)
  rests_shrink b d none k same m ob od = tt
  rests_shrink b d (some []) k same m ob od = m
  rests_shrink b d (some (p ∷ σ)) k same m ob od =
      followed_shrinks L (p ∷ σ) k (fewer (apply (p ∷ σ) b) (apply (p ∷ σ) d))
      (shrinks k.left (apply (p ∷ σ) b) (apply (p ∷ σ) d) (k.over b ob) (k.over d od))

  pub by_shrinks : (s t : Term) → Over L s → Over L t → Shrinks L (unify_by fewer s t)
  by_shrinks (var x) t o q = meet_shrinks L x t o q
  by_shrinks (atom a) (var y) o q = bind_shrinks L y (atom a) q o
  by_shrinks (atom a) (atom b) o q = cond_at (Shrinks L) (eqb a b) (λ e. shrink_none L) (λ e. tt)
  by_shrinks (atom a) (pair c d) o q = tt
  by_shrinks (pair a b) (var y) o q = bind_shrinks L y (pair a b) q o
  by_shrinks (pair a b) (atom c) o q = tt
  by_shrinks (pair a b) (pair c d) o q =
      rests_shrink b d (unify_by fewer a c) (by_shrinks a c o.0 q.0) (unify_by fewer b) (by_shrinks b d o.1 q.1) o.1 q.1

pub within_shrinks : (n : ℕ) → AllShrink (unify_within n)
within_shrinks zero L s t o q = by_shrinks (λ s t. none) (λ L s t o q. tt) L s t o q
within_shrinks (suc n) L s t o q = by_shrinks (unify_within n) (within_shrinks n) L s t o q

-- the variables of a term, each as often as it stands there
abbrev pub variables : Term → List ℕ
variables (var x) = x ∷ []
variables (atom a) = []
variables (pair s t) = variables s ++ variables t

pub variables_count : (t : Term) → length (variables t) ≡ occurrences t
variables_count (var x) = refl
variables_count (atom a) = refl
variables_count (pair s t) = omega (arith, length-append (variables s) (variables t), variables_count s, variables_count t)

in_left : (x : ℕ) (L M : List ℕ) → In x L → In x (L ++ M)
in_left x [] M i = absurd i
in_left x (y ∷ ys) M (inl e) = inl e
in_left x (y ∷ ys) M (inr i) = inr (in_left x ys M i)

in_right : (x : ℕ) (L M : List ℕ) → In x M → In x (L ++ M)
in_right x [] M i = i
in_right x (y ∷ ys) M i = inr (in_right x ys M i)

over_more : (L M : List ℕ) → ((x : ℕ) → In x L → In x M) → (t : Term) → Over L t → Over M t
over_more L M f (var x) o = f x o
over_more L M f (atom a) o = tt
over_more L M f (pair s t) o = (over_more L M f s o.0, over_more L M f t o.1)

pub over_variables : (t : Term) → Over (variables t) t
over_variables (var x) = inl refl
over_variables (atom a) = tt
over_variables (pair s t) = (
  over_more (variables s) (variables s ++ variables t) (λ x. in_left x (variables s) (variables t)) s (over_variables s),
  over_more (variables t) (variables s ++ variables t) (λ x. in_right x (variables s) (variables t)) t (over_variables t),
)
