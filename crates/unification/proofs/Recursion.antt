-- Unification is its own recursion: the bound never counts. Assumes nothing.
use mathlib.Core.Path.{◌≡◌, refl, sym, ◌∙◌, ap}
use mathlib.Core.List.{List, [], ◌∷◌}
use mathlib.Core.Option.{Option, none, some}
use Prim.Native.Nat.{ℕ, zero, suc, ◌+◌, ◌≤◌, ◌<◌}
use native.Mathlib.Omega.{arith}
use native.Mathlib.Decide.{dec_le}
use lib.ListN.{length}
use Rattle.terms.specs.Terms.{Term, var, atom, pair}
use Rattle.unification.specs.Variables.{occurrences}
use Rattle.unification.specs.Substitutions.{Substitution, apply}
use Rattle.unification.specs.Unification.{Unifier, followed, rests, robinson, rests_by, unify_by, unify_within, unify}
use Rattle.unification.specs.Laws.{Recursive}
use Rattle.unification.proofs.Shrinks.{Over, Shrinks, AllShrink, by_shrinks, within_shrinks, variables, variables_count, over_variables}

-- two unifiers that agree on terms with fewer variables
module _ (f g : Unifier) (shrinks : AllShrink f) (L : List ℕ)
    (agree : (M : List ℕ) → length M < length L → (s t : Term) → Over M s → Over M t → f s t ≡ g s t) where
  rests_same : (b d : Term) (r r' : Option Substitution) → r ≡ r' → Shrinks L r → (k k' : Term → Option Substitution) → k d ≡ k' d → Over L b → Over L d
      → rests_by f r k b d ≡ rests_by g r' k' b d
  rests_same b d r r' e s k k' m ob od = by_cases r s ∙ ap (λ (u : Option Substitution). rests_by g u k' b d) e
    where
      by_cases : (r : Option Substitution) → Shrinks L r → rests_by f r k b d ≡ rests_by g r k' b d
      by_cases none s = refl
      by_cases (some []) s = m
      by_cases (some (p ∷ σ)) s =
          ap (followed (p ∷ σ)) (agree s.left (omega (arith, s.less)) (apply (p ∷ σ) b) (apply (p ∷ σ) d) (s.over b ob) (s.over d od))

  by_same : (s t : Term) → Over L s → Over L t → unify_by f s t ≡ unify_by g s t
  by_same (var x) t o q = refl
  by_same (atom a) (var y) o q = refl
  by_same (atom a) (atom b) o q = refl
  by_same (atom a) (pair c d) o q = refl
  by_same (pair a b) (var y) o q = refl
  by_same (pair a b) (atom c) o q = refl
  by_same (pair a b) (pair c d) o q =
      rests_same b d (unify_by f a c) (unify_by g a c) (by_same a c o.0 q.0) (by_shrinks f shrinks L a c o.0 q.0)
      (unify_by f b) (unify_by g b) (by_same b d o.1 q.1) o.1 q.1

-- any two bounds that suffice
within_same : (n k : ℕ) (L : List ℕ) → length L ≤ n → length L ≤ k → (s t : Term) → Over L s → Over L t → unify_within n s t ≡ unify_within k s t
within_same zero zero L l r s t o q = refl
within_same zero (suc k) L l r s t o q = by_same (λ s t. none) (unify_within k) (λ L s t o q. tt) L (λ M h s t o q. absurd (omega (arith, h, l))) s t o q
within_same (suc n) zero L l r s t o q = by_same (unify_within n) (λ s t. none) (within_shrinks n) L (λ M h s t o q. absurd (omega (arith, h, r))) s t o q
within_same (suc n) (suc k) L l r s t o q =
    by_same (unify_within n) (unify_within k) (within_shrinks n) L (λ M h. within_same n k M (omega (arith, h, l)) (omega (arith, h, r))) s t o q

within_unify : (n : ℕ) (L : List ℕ) → length L ≤ n → (s t : Term) → Over L s → Over L t → unify_within n s t ≡ unify s t
unfolding unify
within_unify n L l s t o q = by_order (dec_le (occurrences s + occurrences t) n)
  where
    by_order : Dec (occurrences s + occurrences t ≤ n) → unify_within n s t ≡ unify_within (occurrences s + occurrences t) s t
    by_order (yes h) =
        within_same n (occurrences s + occurrences t) (variables (pair s t)) (omega (arith, h, variables_count (pair s t))) (omega (arith, variables_count (pair s t))) s t
        (over_variables (pair s t)).0 (over_variables (pair s t)).1
    by_order (no h) = within_same n (occurrences s + occurrences t) L l (omega (arith, l, h)) s t o q

unify_is_by : (s t : Term) → unify s t ≡ unify_by unify s t
unfolding unify
unify_is_by s t = from (occurrences s + occurrences t) (omega (arith, variables_count (pair s t)))
  where
    from : (n : ℕ) → length (variables (pair s t)) ≤ n → unify_within n s t ≡ unify_by unify s t
    from zero l =
        by_same (λ s t. none) unify (λ L s t o q. tt) (variables (pair s t)) (λ M h s t o q. absurd (omega (arith, h, l))) s t
        (over_variables (pair s t)).0 (over_variables (pair s t)).1
    from (suc n) l =
        by_same (unify_within n) unify (within_shrinks n) (variables (pair s t)) (λ M h. within_unify n M (omega (arith, h, l))) s t
        (over_variables (pair s t)).0 (over_variables (pair s t)).1

followed_none : (r : Option Substitution) → r ≡ followed [] r
followed_none none = refl
followed_none (some σ) = refl

rests_alike : (r : Option Substitution) (b d : Term) → rests_by unify r (unify_by unify b) b d ≡ rests unify r b d
rests_alike none b d = refl
rests_alike (some []) b d = sym (unify_is_by b d) ∙ followed_none (unify b d)
rests_alike (some (p ∷ σ)) b d = refl

by_robinson : (s t : Term) → unify_by unify s t ≡ robinson unify s t
by_robinson (var x) t = refl
by_robinson (atom a) (var y) = refl
by_robinson (atom a) (atom b) = refl
by_robinson (atom a) (pair c d) = refl
by_robinson (pair a b) (var y) = refl
by_robinson (pair a b) (atom c) = refl
by_robinson (pair a b) (pair c d) =
    ap (λ (r : Option Substitution). rests_by unify r (unify_by unify b) b d) (sym (unify_is_by a c)) ∙ rests_alike (unify a c) b d

pub recursive : Recursive
recursive s t = unify_is_by s t ∙ by_robinson s t
