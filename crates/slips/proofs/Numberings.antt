-- Terms numbered while they are written, and the table of numbers. Assumes nothing.
use Rattle.std.proofs.Common.{◌≡◌, ℕ, ◌+◌, ◌<◌, ◌≤◌, Bool, true, false, cond, eqb, List, [], ◌∷◌, ◌++◌, map, length, get_or, take, drop, set, replicate, Some, None, Option, sym, refl, ap, ◌∙◌, subst, arith, length-append, length-drop, length-set, take-append-drop, length-take-le, get_or-set_other, get_or-set_same, take-add}
use lib.ListN.{length-map, length-replicate, get_or-replicate}
use Rattle.std.proofs.lemmas.List.{take-map, drop-map}
use Rattle.std.proofs.lemmas.Bool.{true≢false, eqb-true, eqb-false}
use Rattle.terms.specs.declared.Form.TheVariants.{Slips}
use Rattle.terms.specs.Terms.{Term, var, atom, pair}
use Rattle.terms.specs.Bytes.{two, encoding, encodings}
use Rattle.slips.specs.Slips.{among, position, appeared, all_appeared, renumbered, numbered}
use Rattle.slips.specs.Numberings.{Names, own, by_first, term_bytes, names_after, Numbers}
use Rattle.slips.proofs.Unknowns.{among_end, appeared_known, all_appeared_known, count_most, end_other, count_new, count_none, Extends, appeared_extends, all_appeared_extends, position_kept, position_new, renumbered_kept, all_renumbered_kept, all_appeared_append}

-- ── the parts of a term ──

-- a term's numbers are those that it has once more terms are written
later : (xs : List ℕ) (t : Term) (zs : List ℕ) → Extends (appeared xs t) zs → renumbered zs t ≡ renumbered (appeared xs t) t
later xs t zs (ys, e) = ap (λ (l : List ℕ). renumbered l t) e ∙ renumbered_kept (appeared xs t) ys t (appeared_known xs t)

pub bytes_pair : (ns : Names) (s t : Term) → term_bytes ns (pair s t) ≡ 0x03 ∷ (term_bytes ns s ++ term_bytes (names_after ns s) t)
bytes_pair own s t = refl
bytes_pair (by_first xs) s t =
    ap (λ (u : Term). 0x03 ∷ (encoding Slips u ++ encoding Slips (renumbered (appeared (appeared xs s) t) t)))
    (later xs s (appeared (appeared xs s) t) (appeared_extends (appeared xs s) t))

pub bytes_atom : (ns : Names) (a : ℕ) → term_bytes ns (atom a) ≡ 0x01 ∷ two a
bytes_atom own a = refl
bytes_atom (by_first xs) a = refl

pub after_pair : (ns : Names) (s t : Term) → names_after ns (pair s t) ≡ names_after (names_after ns s) t
after_pair own s t = refl
after_pair (by_first xs) s t = refl

pub after_atom : (ns : Names) (a : ℕ) → names_after ns (atom a) ≡ ns
after_atom own a = refl
after_atom (by_first xs) a = refl

-- ── terms one after the other ──

-- the bytes of terms as unknowns after those that appeared before
abbrev pub unknown_bytes : List ℕ → List Term → List ℕ
unknown_bytes xs ts = encodings Slips (map (renumbered (all_appeared xs ts)) ts)

pub bytes_more : (xs : List ℕ) (t : Term) (ts : List Term) → unknown_bytes xs (t ∷ ts) ≡ term_bytes (by_first xs) t ++ unknown_bytes (appeared xs t) ts
bytes_more xs t ts =
    ap (λ (u : Term). encoding Slips u ++ unknown_bytes (appeared xs t) ts)
    (later xs t (all_appeared (appeared xs t) ts) (all_appeared_extends (appeared xs t) ts))

-- Terms have the numbers that they have once more terms are written.
pub all_later : (xs : List ℕ) (ts : List Term) (zs : List ℕ) → Extends (all_appeared xs ts) zs → map (renumbered zs) ts ≡ map (renumbered (all_appeared xs ts)) ts
all_later xs ts zs (ys, e) = ap (λ (l : List ℕ). map (renumbered l) ts) e ∙ all_renumbered_kept (all_appeared xs ts) ys ts (all_appeared_known xs ts)

-- Part of a list that is numbered as a whole.
module _ (cells : List Term) (from many : ℕ) where
  abbrev ts : List Term
  ts = take many (drop from cells)

  abbrev xs : List ℕ
  xs = all_appeared [] (take from cells)

  pub part_length : from + many ≤ length cells → length (take many (drop from (numbered cells))) ≡ many
  part_length h =
      length-take-le many (drop from (numbered cells))
      (omega (arith, length-drop from (numbered cells), length-map cells (renumbered (all_appeared [] cells))))

  all_met : all_appeared [] cells ≡ all_appeared (all_appeared xs ts) (drop many (drop from cells))
  all_met =
      ap (all_appeared []) (sym (take-append-drop from cells))
      ∙ all_appeared_append [] (take from cells) (drop from cells)
      ∙ ap (all_appeared xs) (sym (take-append-drop many (drop from cells)))
      ∙ all_appeared_append xs ts (drop many (drop from cells))

  -- It has the numbers that it gets after the terms before it.
  pub part_numbered : take many (drop from (numbered cells)) ≡ map (renumbered (all_appeared xs ts)) ts
  part_numbered =
      ap (take many) (drop-map (renumbered (all_appeared [] cells)) from cells)
      ∙ take-map (renumbered (all_appeared [] cells)) many (drop from cells)
      ∙ all_later xs ts (all_appeared [] cells)
      (subst (Extends (all_appeared xs ts)) (sym all_met) (all_appeared_extends (all_appeared xs ts) (drop many (drop from cells))))

  pub part_met : all_appeared xs ts ≡ all_appeared [] (take (from + many) cells)
  part_met = sym (ap (all_appeared []) (take-add from many cells) ∙ all_appeared_append [] (take from cells) ts)

-- ── the table ──

module _ {table : List (Option ℕ)} {met used : ℕ} {xs : List ℕ} (n : Numbers table met used xs) where
  pub numbers_few : met ≤ used
  numbers_few = omega (arith, n.many, n.once, count_most used xs)

  -- A variable that has a number appeared.
  was_known : (x k : ℕ) → x < used → get_or table x None ≡ Some k → among x xs ≡ true
  was_known x k l h = by (among x xs) refl
    where
      by : (b : Bool) → among x xs ≡ b → among x xs ≡ true
      by true e = e
      by false e = let o : get_or table x None ≡ None = n.others x (omega (arith, l, n.room)) e in cc

  was_other : (x : ℕ) → get_or table x None ≡ None → among x xs ≡ false
  was_other x h = by (among x xs) refl
    where
      by : (b : Bool) → among x xs ≡ b → among x xs ≡ false
      by true e = let k : get_or table x None ≡ Some (position x xs) = n.known x e in cc
      by false e = e

  pub numbers_known : (x k : ℕ) → x < used → get_or table x None ≡ Some k
      → Numbers table met used (appeared xs (var x)) × (k ≡ position x (appeared xs (var x)))
  numbers_known x k l h =
      let e = was_known x k l h in
      let p : get_or table x None ≡ Some (position x xs) = n.known x e in
      let i : k ≡ position x xs = cc in
      subst (λ (b : Bool). Numbers table met used (cond b xs (xs ++ (x ∷ []))) × (k ≡ position x (cond b xs (xs ++ (x ∷ []))))) (sym e) (n, i)

  module _ (x : ℕ) (l : x < used) (e : among x xs ≡ false) where
    abbrev xs' : List ℕ
    xs' = xs ++ (x ∷ [])

    new_known : (y : ℕ) (b : Bool) → eqb y x ≡ b → among y xs' ≡ true → get_or (set table x (Some met)) y None ≡ Some (position y xs')
    new_known y true k h =
        let i : y ≡ x = eqb-true y x k in
        subst (λ (z : ℕ). get_or (set table x (Some met)) z None ≡ Some (position z xs')) (sym i)
        (get_or-set_same table x (Some met) None (omega (arith, l, n.room)) ∙ ap Some (n.many ∙ sym (position_new x xs [] e)))
    new_known y false k h =
        let was : among y xs ≡ true = sym (end_other y x xs (eqb-false y x k)) ∙ h in
        get_or-set_other table x y (Some met) None (eqb-false y x k) ∙ n.known y was ∙ ap Some (sym (position_kept y xs (x ∷ []) was))

    new_others : (y : ℕ) (b : Bool) → eqb y x ≡ b → y < length table → among y xs' ≡ false → get_or (set table x (Some met)) y None ≡ None
    new_others y true k m h =
        let both : among y xs' ≡ true = among_end y x xs ∙ ap (cond (among y xs) true) k ∙ cond_same (among y xs) in
        let z : ◌≡◌ {A = Bool} true false = sym both ∙ h in
        absurd (true≢false z)
      where
        cond_same : (b : Bool) → cond b true true ≡ true
        cond_same true = refl
        cond_same false = refl
    new_others y false k m h =
        get_or-set_other table x y (Some met) None (eqb-false y x k) ∙ n.others y m (sym (end_other y x xs (eqb-false y x k)) ∙ h)

    new_numbers : Numbers (set table x (Some met)) (met + 1) used xs'
    new_numbers =
        record {
          room = omega (arith, n.room, length-set table x (Some met));
          many = omega (arith, n.many, length-append xs (x ∷ []));
          once = omega (arith, n.once, count_new used x xs l e, length-append xs (x ∷ []));
          known = λ y. new_known y (eqb y x) refl;
          others = λ y m. new_others y (eqb y x) refl (omega (arith, m, length-set table x (Some met)));
        }

  -- A variable that has none gets the next one.
  pub numbers_new : (x : ℕ) → x < used → get_or table x None ≡ None
      → Numbers (set table x (Some met)) (met + 1) used (appeared xs (var x)) × (met ≡ position x (appeared xs (var x)))
  numbers_new x l h =
      let e = was_other x h in
      subst (λ (b : Bool). Numbers (set table x (Some met)) (met + 1) used (cond b xs (xs ++ (x ∷ []))) × (met ≡ position x (cond b xs (xs ++ (x ∷ []))))) (sym e)
      (new_numbers x l e, n.many ∙ sym (position_new x xs [] e))

-- Nothing has a number yet.
pub numbers_none : (n used : ℕ) → used ≤ n → Numbers (replicate n None) 0 used []
numbers_none n used h =
    let none : Option ℕ = None in
    let l = length-replicate n none in
    record {
      room = omega (arith, h, l);
      many = refl;
      once = sym (count_none used);
      known = λ x e. absurd (true≢false (sym e));
      others = λ x m e. get_or-replicate n x None None (omega (arith, m, l));
    }
