-- Calls in slots, one after the other. Assumes nothing.
use Rattle.std.proofs.Common.{◌≡◌, ℕ, zero, suc, ◌+◌, ◌<◌, ◌≤◌, List, [], ◌∷◌, ◌++◌, map, length, get_or, take, drop, set, sym, refl, ap, ◌∙◌, ap₂, append_assoc, append-nil, arith, length-set}
use mathlib.Core.Option.{Option, some}
use Rattle.std.proofs.lemmas.List.{take_all, drop_all, drop-set-lt, drop_more, take_more_set}
use Rattle.terms.specs.Terms.{Rule, Query}
use Rattle.resolution.specs.Search.{Search as DefinedSearch}
use Rattle.slips.specs.Runs.{Reply as Returned, reply, after, replies}
use Rattle.engine.specs.declared.slots.Request.{Request}
use Rattle.engine.specs.declared.slots.Slot.{Slot}
use Rattle.engine.specs.Slots.{asked, returned, keeps}

map_both : {A B : Type 0} (f : A → B) (xs ys : List A) → map f (xs ++ ys) ≡ map f xs ++ map f ys
map_both f [] ys = refl
map_both f (x ∷ xs) ys = ap (λ zs. f x ∷ zs) (map_both f xs ys)

-- an element put in place of itself
set_itself : {A : Type 0} (x : A) (ys : List A) (k : ℕ) → k < length ys → get_or ys k x ≡ x → set ys k x ≡ ys
set_itself x [] k l e = absurd (omega (arith, l))
set_itself x (z ∷ ys) zero l e = ap (λ w. w ∷ ys) (sym e)
set_itself x (z ∷ ys) (suc k) l e = ap (λ ws. z ∷ ws) (set_itself x ys k (omega (arith, l)) e)

-- of the slots before, the calls up to i were carried out: they hold what they return, and the others are as they were
pub record SoFar (rs : List Rule) (q : Query) (before now : List Slot) (i : ℕ) (from s : DefinedSearch) : Type 0 where
  pub long : length now ≡ length before
  pub rest : drop i now ≡ drop i before
  pub kept : map keeps (take i now) ≡ map keeps (take i before)
  pub replied : map returned (take i now) ++ map some (replies rs q (map asked (drop i before)) s) ≡ map some (replies rs q (map asked before) from)

module _ (rs : List Rule) (q : Query) (before : List Slot) (from : DefinedSearch) where
  pub none_yet : SoFar rs q before before 0 from from
  none_yet = record { long = refl; rest = refl; kept = refl; replied = refl }

  module _ (now : List Slot) (i : ℕ) (s s' : DefinedSearch) (x y : Slot) (far : SoFar rs q before now i from s) (inside : i < length now) (at : x ≡ get_or now i x)
      (is : returned y ≡ some (reply rs q (asked x) s)) (then : s' ≡ after rs q (asked x) s) (keep : keeps y ≡ keeps x) where
    split_now : drop i now ≡ x ∷ drop (i + 1) now
    split_now = drop_more now i x inside ∙ ap (λ (z : Slot). z ∷ drop (i + 1) now) (sym at)

    split_before : drop i before ≡ get_or before i x ∷ drop (i + 1) before
    split_before = drop_more before i x (omega (arith, inside, far.long))

    same_rest : x ∷ drop (i + 1) now ≡ get_or before i x ∷ drop (i + 1) before
    same_rest = sym split_now ∙ far.rest ∙ split_before

    same_slot : get_or before i x ≡ x
    same_slot = sym (ap (λ (zs : List Slot). get_or zs 0 x) same_rest)

    rest_same : drop (i + 1) now ≡ drop (i + 1) before
    rest_same = ap (drop 1) same_rest

    lt : i < i + 1
    lt = omega arith

    taken : take (i + 1) (set now i y) ≡ take i now ++ (y ∷ [])
    taken = take_more_set now i y inside

    taken_before : take (i + 1) before ≡ take i before ++ (x ∷ [])
    taken_before = ap (take (i + 1)) (sym whole) ∙ take_more_set before i x (omega (arith, inside, far.long))
      where
        whole : set before i x ≡ before
        whole = set_itself x before i (omega (arith, inside, far.long)) same_slot

    pub one_more : SoFar rs q before (set now i y) (i + 1) from s'
    one_more =
        record {
          long = length-set now i y ∙ far.long;
          rest = drop-set-lt (i + 1) now i y lt ∙ rest_same;
          kept =
              ap (map keeps) taken ∙ map_both keeps (take i now) (y ∷ []) ∙ ap₂ (λ (a b : List (Request × List ℕ)). a ++ b) far.kept (ap (λ (k : Request × List ℕ). k ∷ []) keep)
              ∙ sym (ap (map keeps) taken_before ∙ map_both keeps (take i before) (x ∷ []));
          replied =
              ap (λ (a : List (Option Returned)). a ++ map some (replies rs q (map asked (drop (i + 1) before)) s')) (ap (map returned) taken ∙ map_both returned (take i now) (y ∷ []))
              ∙ ap₂ (λ (o : Option Returned) (t : DefinedSearch). (map returned (take i now) ++ (o ∷ [])) ++ map some (replies rs q (map asked (drop (i + 1) before)) t)) is then
              ∙ append_assoc (map returned (take i now)) (some (reply rs q (asked x) s) ∷ []) (map some (replies rs q (map asked (drop (i + 1) before)) (after rs q (asked x) s)))
              ∙ ap (λ (z : List Slot). map returned (take i now) ++ map some (replies rs q (map asked z) s)) (sym (split_before ∙ ap (λ (z : Slot). z ∷ drop (i + 1) before) same_slot))
              ∙ far.replied;
        }

  module _ (now : List Slot) (i : ℕ) (s : DefinedSearch) (far : SoFar rs q before now i from s) (end : length now ≤ i) where
    pub all_replied : map returned now ≡ map some (replies rs q (map asked before) from)
    all_replied =
        ap (map returned) (sym (take_all i now end)) ∙ sym (append-nil (map returned (take i now)))
        ∙ ap (λ (z : List Slot). map returned (take i now) ++ map some (replies rs q (map asked z) s)) (sym (drop_all i before (omega (arith, end, far.long)))) ∙ far.replied

    pub all_kept : map keeps now ≡ map keeps before
    all_kept = ap (map keeps) (sym (take_all i now end)) ∙ far.kept ∙ ap (map keeps) (take_all i before (omega (arith, end, far.long)))
