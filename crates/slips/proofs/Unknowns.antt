-- Unknowns by first appearance: each is found again, and there are no more of them than variables. Assumes nothing.
use Rattle.std.proofs.Common.{◌≡◌, ℕ, zero, suc, ◌<◌, ◌≤◌, Bool, true, false, cond, eqb, List, [], ◌∷◌, ◌++◌, map, length, get_or, take, drop, sym, refl, ap, ◌∙◌, subst, ap₂, append_assoc, append-nil, arith, length-append, take-append-drop}
use Rattle.std.proofs.lemmas.List.{take-map}
use Rattle.std.proofs.lemmas.Bool.{eqb-true, eqb-false, eq-eqb, ne_eqb}
use Rattle.terms.specs.Terms.{Term, var, atom, pair}
use Rattle.unification.specs.Variables.{Within, AllWithin}
use Rattle.unification.specs.Ground.{ground_pair, Replacement, replaced}
use Rattle.unification.proofs.Choice.{cond_at}
use Rattle.slips.specs.Slips.{among, position, appeared, all_appeared, renumbered, numbered}
use Rattle.slips.specs.Numberings.{count}
use Rattle.slips.specs.Laws.{below, UnknownsInOrder}

-- each variable of the term is among these
abbrev pub Known : List ℕ → Term → Type 0
Known xs (var x) = among x xs ≡ true
Known xs (atom a) = Unit {0}
Known xs (pair s t) = Known xs s × Known xs t

abbrev pub AllKnown : List ℕ → List Term → Type 0
AllKnown xs [] = Unit {0}
AllKnown xs (t ∷ ts) = Known xs t × AllKnown xs ts

-- whatever is among xs is among ys
abbrev pub Part : List ℕ → List ℕ → Type 0
Part xs ys = (x : ℕ) → among x xs ≡ true → among x ys ≡ true

pub known_more : (xs ys : List ℕ) → Part xs ys → (t : Term) → Known xs t → Known ys t
known_more xs ys h (var x) k = h x k
known_more xs ys h (atom a) k = tt
known_more xs ys h (pair s t) k = (known_more xs ys h s k.0, known_more xs ys h t k.1)

-- one more at the end
pub among_end : (k x : ℕ) (xs : List ℕ) → among k (xs ++ (x ∷ [])) ≡ cond (among k xs) true (eqb k x)
among_end k x [] = by (eqb k x)
  where
    by : (b : Bool) → cond b true false ≡ b
    by true = refl
    by false = refl
among_end k x (y ∷ ys) = by (eqb k y) (among_end k x ys)
  where
    by : (b : Bool) → among k (ys ++ (x ∷ [])) ≡ cond (among k ys) true (eqb k x)
        → cond b true (among k (ys ++ (x ∷ []))) ≡ cond (cond b true (among k ys)) true (eqb k x)
    by true e = refl
    by false e = e

end_part : (x : ℕ) (xs : List ℕ) → Part xs (xs ++ (x ∷ []))
end_part x xs k e = among_end k x xs ∙ ap (λ b. cond b true (eqb k x)) e

end_among : (x : ℕ) (xs : List ℕ) → among x (xs ++ (x ∷ [])) ≡ true
end_among x xs = among_end x x xs ∙ ap (cond (among x xs) true) (eq-eqb x x refl) ∙ by (among x xs)
  where
    by : (b : Bool) → cond b true true ≡ true
    by true = refl
    by false = refl

pub appeared_part : (xs : List ℕ) (t : Term) → Part xs (appeared xs t)
appeared_part xs (var x) k e = cond_at (λ (l : List ℕ). among k l ≡ true) (among x xs) (λ _. e) (λ _. end_part x xs k e)
appeared_part xs (atom a) k e = e
appeared_part xs (pair s t) k e = appeared_part (appeared xs s) t k (appeared_part xs s k e)

pub appeared_known : (xs : List ℕ) (t : Term) → Known (appeared xs t) t
appeared_known xs (var x) = cond_at (λ (l : List ℕ). among x l ≡ true) (among x xs) (λ e. e) (λ e. end_among x xs)
appeared_known xs (atom a) = tt
appeared_known xs (pair s t) =
    (known_more (appeared xs s) (appeared (appeared xs s) t) (appeared_part (appeared xs s) t) s (appeared_known xs s), appeared_known (appeared xs s) t)

pub all_appeared_part : (xs : List ℕ) (ts : List Term) → Part xs (all_appeared xs ts)
all_appeared_part xs [] k e = e
all_appeared_part xs (t ∷ ts) k e = all_appeared_part (appeared xs t) ts k (appeared_part xs t k e)

pub all_appeared_known : (xs : List ℕ) (ts : List Term) → AllKnown (all_appeared xs ts) ts
all_appeared_known xs [] = tt
all_appeared_known xs (t ∷ ts) =
    (known_more (appeared xs t) (all_appeared (appeared xs t) ts) (all_appeared_part (appeared xs t) ts) t (appeared_known xs t), all_appeared_known (appeared xs t) ts)

-- ── a variable is found again where it stands ──

position_step : (x y : ℕ) (ys : List ℕ) (b : Bool) → cond b true (among x ys) ≡ true → (among x ys ≡ true → position x ys < length ys)
    → cond b 0 (suc (position x ys)) < suc (length ys)
position_step x y ys true e h = omega arith
position_step x y ys false e h = omega (arith, h e)

pub position_below : (x : ℕ) (xs : List ℕ) → among x xs ≡ true → position x xs < length xs
position_below x [] e = let z : ◌≡◌ {A = ℕ} 0 1 = cc in absurd (omega arith)
position_below x (y ∷ ys) e = position_step x y ys (eqb x y) e (position_below x ys)

back_step : (x y : ℕ) (ys : List ℕ) (b : Bool) → eqb x y ≡ b → cond b true (among x ys) ≡ true → (among x ys ≡ true → get_or ys (position x ys) 0 ≡ x)
    → get_or (y ∷ ys) (cond b 0 (suc (position x ys))) 0 ≡ x
back_step x y ys true k e h = sym (eqb-true x y k)
back_step x y ys false k e h = h e

pub position_back : (x : ℕ) (xs : List ℕ) → among x xs ≡ true → get_or xs (position x xs) 0 ≡ x
position_back x [] e = let z : ◌≡◌ {A = ℕ} 0 1 = cc in absurd (omega arith)
position_back x (y ∷ ys) e = back_step x y ys (eqb x y) refl e (position_back x ys)

-- what replaces a variable replaces its unknown
pub replaced_renumbered : (γ : Replacement) (xs : List ℕ) (t : Term) → Known xs t → replaced (λ u. γ (get_or xs u 0)) (renumbered xs t) ≡ replaced γ t
replaced_renumbered γ xs (var x) k = ap γ (position_back x xs k)
replaced_renumbered γ xs (atom a) k = refl
replaced_renumbered γ xs (pair s t) k = ap₂ ground_pair (replaced_renumbered γ xs s k.0) (replaced_renumbered γ xs t k.1)

-- ── no more unknowns than variables ──

pub count_most : (n : ℕ) (xs : List ℕ) → count n xs ≤ n
count_most zero xs = omega arith
count_most (suc n) xs = cond_at (λ c. c ≤ suc n) (among n xs) (λ _. omega (arith, count_most n xs)) (λ _. omega (arith, count_most n xs))

pub end_other : (k x : ℕ) (xs : List ℕ) → (k ≡ x → ⊥) → among k (xs ++ (x ∷ [])) ≡ among k xs
end_other k x xs h = among_end k x xs ∙ ap (cond (among k xs) true) (ne_eqb k x h) ∙ by (among k xs)
  where
    by : (b : Bool) → cond b true false ≡ b
    by true = refl
    by false = refl

count_above : (n x : ℕ) (xs : List ℕ) → n ≤ x → count n (xs ++ (x ∷ [])) ≡ count n xs
count_above zero x xs h = refl
count_above (suc n) x xs h =
    ap₂ (λ (b : Bool) (c : ℕ). cond b (suc c) c) (end_other n x xs (λ e. omega (arith, e, h))) (count_above n x xs (omega (arith, h)))

count_step : (n x : ℕ) (xs : List ℕ) (b : Bool) → eqb x n ≡ b → x < suc n → among x xs ≡ false → (x < n → count n (xs ++ (x ∷ [])) ≡ suc (count n xs))
    → count (suc n) (xs ++ (x ∷ [])) ≡ suc (count (suc n) xs)
count_step n x xs true k l e h =
    let at : x ≡ n = eqb-true x n k in
    ap₂ (λ (b : Bool) (c : ℕ). cond b (suc c) c) (subst (λ m. among m (xs ++ (x ∷ [])) ≡ true) at (end_among x xs)) (count_above n x xs (omega (arith, at)))
    ∙ ap (λ (b : Bool). suc (cond b (suc (count n xs)) (count n xs))) (sym (subst (λ m. among m xs ≡ false) at e))
count_step n x xs false k l e h =
    let other : n ≡ x → ⊥ = (λ (i : n ≡ x). eqb-false x n k (sym i)) in
    ap₂ (λ (b : Bool) (c : ℕ). cond b (suc c) c) (end_other n x xs other) (h (omega (arith, l, other)))
    ∙ by (among n xs)
  where
    by : (b : Bool) → cond b (suc (suc (count n xs))) (suc (count n xs)) ≡ suc (cond b (suc (count n xs)) (count n xs))
    by true = refl
    by false = refl

pub count_new : (n x : ℕ) (xs : List ℕ) → x < n → among x xs ≡ false → count n (xs ++ (x ∷ [])) ≡ suc (count n xs)
count_new zero x xs l e = absurd (omega (arith, l))
count_new (suc n) x xs l e = count_step n x xs (eqb x n) refl l e (λ k. count_new n x xs k e)

-- each of xs is counted once
abbrev pub Counted : ℕ → List ℕ → Type 0
Counted n xs = length xs ≡ count n xs

pub appeared_counted : (n : ℕ) (xs : List ℕ) (t : Term) → Within n t → Counted n xs → Counted n (appeared xs t)
appeared_counted n xs (var x) w c =
    cond_at (Counted n) (among x xs) (λ e. c) (λ e. omega (arith, c, count_new n x xs w e, length-append xs (x ∷ [])))
appeared_counted n xs (atom a) w c = c
appeared_counted n xs (pair s t) w c = appeared_counted n (appeared xs s) t w.1 (appeared_counted n xs s w.0 c)

all_appeared_counted : (n : ℕ) (xs : List ℕ) (ts : List Term) → AllWithin n ts → Counted n xs → Counted n (all_appeared xs ts)
all_appeared_counted n xs [] w c = c
all_appeared_counted n xs (t ∷ ts) w c = all_appeared_counted n (appeared xs t) ts w.1 (appeared_counted n xs t w.0 c)

pub count_none : (n : ℕ) → count n [] ≡ 0
count_none zero = refl
count_none (suc n) = count_none n

pub few_unknowns : (n : ℕ) (ts : List Term) → AllWithin n ts → length (all_appeared [] ts) ≤ n
few_unknowns n ts w =
    let c : Counted n (all_appeared [] ts) = all_appeared_counted n [] ts w (sym (count_none n)) in
    omega (arith, c, count_most n (all_appeared [] ts))

-- ── numbers stay as more variables appear ──

-- zs goes on from xs
abbrev pub Extends : List ℕ → List ℕ → Type 0
Extends xs zs = (ys : List ℕ) × (zs ≡ xs ++ ys)

extends_itself : (xs : List ℕ) → Extends xs xs
extends_itself xs = ([], sym (append-nil xs))

pub extends_more : (xs ys zs : List ℕ) → Extends xs ys → Extends ys zs → Extends xs zs
extends_more xs ys zs (a, e) (b, f) = (a ++ b, f ∙ ap (λ l. l ++ b) e ∙ append_assoc xs a b)

pub appeared_extends : (xs : List ℕ) (t : Term) → Extends xs (appeared xs t)
appeared_extends xs (var x) = cond_at (Extends xs) (among x xs) (λ _. extends_itself xs) (λ _. (x ∷ [], refl))
appeared_extends xs (atom a) = extends_itself xs
appeared_extends xs (pair s t) = extends_more xs (appeared xs s) (appeared (appeared xs s) t) (appeared_extends xs s) (appeared_extends (appeared xs s) t)

pub all_appeared_extends : (xs : List ℕ) (ts : List Term) → Extends xs (all_appeared xs ts)
all_appeared_extends xs [] = extends_itself xs
all_appeared_extends xs (t ∷ ts) =
    extends_more xs (appeared xs t) (all_appeared (appeared xs t) ts) (appeared_extends xs t) (all_appeared_extends (appeared xs t) ts)

kept_step : (x : ℕ) (xs ys : List ℕ) (b : Bool) → cond b true (among x xs) ≡ true → (among x xs ≡ true → position x (xs ++ ys) ≡ position x xs)
    → cond b 0 (suc (position x (xs ++ ys))) ≡ cond b 0 (suc (position x xs))
kept_step x xs ys true e h = refl
kept_step x xs ys false e h = ap suc (h e)

pub position_kept : (x : ℕ) (xs ys : List ℕ) → among x xs ≡ true → position x (xs ++ ys) ≡ position x xs
position_kept x [] ys e = let z : ◌≡◌ {A = ℕ} 0 1 = cc in absurd (omega arith)
position_kept x (y ∷ xs) ys e = kept_step x xs ys (eqb x y) e (position_kept x xs ys)

new_step : (x y : ℕ) (xs ys : List ℕ) (b : Bool) → cond b true (among x xs) ≡ false → (among x xs ≡ false → position x (xs ++ (x ∷ ys)) ≡ length xs)
    → cond b 0 (suc (position x (xs ++ (x ∷ ys)))) ≡ suc (length xs)
new_step x y xs ys true e h = let z : ◌≡◌ {A = ℕ} 0 1 = cc in absurd (omega arith)
new_step x y xs ys false e h = ap suc (h e)

pub position_new : (x : ℕ) (xs ys : List ℕ) → among x xs ≡ false → position x (xs ++ (x ∷ ys)) ≡ length xs
position_new x [] ys e = ap (λ b. cond b 0 (suc (position x ys))) (eq-eqb x x refl)
position_new x (y ∷ xs) ys e = new_step x y xs ys (eqb x y) e (position_new x xs ys)

pub renumbered_kept : (xs ys : List ℕ) (t : Term) → Known xs t → renumbered (xs ++ ys) t ≡ renumbered xs t
renumbered_kept xs ys (var x) k = ap var (position_kept x xs ys k)
renumbered_kept xs ys (atom a) k = refl
renumbered_kept xs ys (pair s t) k = ap₂ pair (renumbered_kept xs ys s k.0) (renumbered_kept xs ys t k.1)

pub all_renumbered_kept : (xs ys : List ℕ) (ts : List Term) → AllKnown xs ts → map (renumbered (xs ++ ys)) ts ≡ map (renumbered xs) ts
all_renumbered_kept xs ys [] k = refl
all_renumbered_kept xs ys (t ∷ ts) k = ap₂ ◌∷◌ (renumbered_kept xs ys t k.0) (all_renumbered_kept xs ys ts k.1)

pub all_appeared_append : (xs : List ℕ) (ss ts : List Term) → all_appeared xs (ss ++ ts) ≡ all_appeared (all_appeared xs ss) ts
all_appeared_append xs [] ts = refl
all_appeared_append xs (s ∷ ss) ts = all_appeared_append (appeared xs s) ss ts

front_numbered : (n : ℕ) (ts : List Term) → take n (numbered ts) ≡ numbered (take n ts)
front_numbered n ts =
    take-map (renumbered (all_appeared [] ts)) n ts
    ∙ ap (λ xs. map (renumbered xs) (take n ts)) (ap (all_appeared []) (sym (take-append-drop n ts)) ∙ all_appeared_append [] (take n ts) (drop n ts) ∙ more.1)
    ∙ all_renumbered_kept (all_appeared [] (take n ts)) more.0 (take n ts) (all_appeared_known [] (take n ts))
  where
    more : Extends (all_appeared [] (take n ts)) (all_appeared (all_appeared [] (take n ts)) (drop n ts))
    more = all_appeared_extends (all_appeared [] (take n ts)) (drop n ts)

-- ── unknowns appear in the order of their numbers ──

among_step : (k n : ℕ) (b : Bool) → eqb k n ≡ b → k < suc n → (k < n → among k (below n) ≡ true) → cond (among k (below n)) true b ≡ true
among_step k n true e l h = by (among k (below n))
  where
    by : (b : Bool) → cond b true true ≡ true
    by true = refl
    by false = refl
among_step k n false e l h = ap (λ b. cond b true false) (h (let other : k ≡ n → ⊥ = eqb-false k n e in omega (arith, l, other)))

below_has : (k n : ℕ) → k < n → among k (below n) ≡ true
below_has k zero l = absurd (omega (arith, l))
below_has k (suc n) l = among_end k n (below n) ∙ among_step k n (eqb k n) refl l (below_has k n)

below_lacks : (k n : ℕ) → n ≤ k → among k (below n) ≡ false
below_lacks k zero l = refl
below_lacks k (suc n) l = end_other k n (below n) (λ e. omega (arith, e, l)) ∙ below_lacks k n (omega (arith, l))

var_numbered : (xs : List ℕ) (x : ℕ) (zs : List ℕ) (b : Bool) → among x xs ≡ b → Extends (cond b xs (xs ++ (x ∷ []))) zs
    → appeared (below (length xs)) (var (position x zs)) ≡ below (length (cond b xs (xs ++ (x ∷ []))))
var_numbered xs x zs true e (ys, f) =
    ap (λ k. appeared (below (length xs)) (var k)) (ap (position x) f ∙ position_kept x xs ys e)
    ∙ ap (λ b. cond b (below (length xs)) (below (length xs) ++ (position x xs ∷ []))) (below_has (position x xs) (length xs) (position_below x xs e))
var_numbered xs x zs false e (ys, f) =
    ap (λ k. appeared (below (length xs)) (var k)) (ap (position x) (f ∙ append_assoc xs (x ∷ []) ys) ∙ position_new x xs ys e)
    ∙ ap (λ b. cond b (below (length xs)) (below (length xs) ++ (length xs ∷ []))) (below_lacks (length xs) (length xs) (omega arith))
    ∙ ap below (let n : suc (length xs) ≡ length (xs ++ (x ∷ [])) = omega (arith, length-append xs (x ∷ [])) in n)

appeared_numbered : (xs : List ℕ) (t : Term) (zs : List ℕ) → Extends (appeared xs t) zs → appeared (below (length xs)) (renumbered zs t) ≡ below (length (appeared xs t))
appeared_numbered xs (var x) zs e = var_numbered xs x zs (among x xs) refl e
appeared_numbered xs (atom a) zs e = refl
appeared_numbered xs (pair s t) zs e =
    ap (λ l. appeared l (renumbered zs t)) (appeared_numbered xs s zs (extends_more (appeared xs s) (appeared (appeared xs s) t) zs (appeared_extends (appeared xs s) t) e))
    ∙ appeared_numbered (appeared xs s) t zs e

all_numbered : (xs : List ℕ) (ts : List Term) (zs : List ℕ) → Extends (all_appeared xs ts) zs → all_appeared (below (length xs)) (map (renumbered zs) ts) ≡ below (length (all_appeared xs ts))
all_numbered xs [] zs e = refl
all_numbered xs (t ∷ ts) zs e =
    ap (λ l. all_appeared l (map (renumbered zs) ts))
    (appeared_numbered xs t zs (extends_more (appeared xs t) (all_appeared (appeared xs t) ts) zs (all_appeared_extends (appeared xs t) ts) e))
    ∙ all_numbered (appeared xs t) ts zs e

pub unknowns_in_order : UnknownsInOrder
unknowns_in_order =
    record {
      front_alone = front_numbered;
      from_0 = λ ts. all_numbered [] ts (all_appeared [] ts) (extends_itself (all_appeared [] ts));
    }
