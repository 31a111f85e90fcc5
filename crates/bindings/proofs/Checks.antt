-- The tests of terms, marks and cells hold exactly where what they test holds. Assumes nothing.
use Rattle.std.proofs.Common.{◌≡◌, ℕ, zero, suc, ◌+◌, ◌<◌, ◌≤◌, Bool, true, false, cond, not, ◌||◌, eqb, leb, List, [], ◌∷◌, length, get_or, set, sym, refl, ap, ◌∙◌, subst, ap₂, inl, inr, arith, Some, None}
use native.Mathlib.Decide.{dec_le}
use Rattle.std.proofs.lemmas.Bool.{ltb-true, leb-true, eqb-true, eqb-false, lt-ltb, le-leb, eq-eqb, ne_eqb, and_parts, and_from, or_cases, or_left, or_right, not-true, not_from_false}
use Rattle.std.proofs.lemmas.List.{get_or_past}
use Rattle.std.proofs.lemmas.Option.{none-some}
use Rattle.terms.specs.Terms.{Term, var, atom, pair}
use Rattle.unification.specs.Variables.{Within, occurs}
use Rattle.bindings.specs.declared.Binding.{Binding}
use Rattle.bindings.specs.Cells.{Cell}
use Rattle.bindings.specs.Meanings.{Trail, meaning}
use Rattle.bindings.specs.Texts.{Spans, tree, term, Stands, Declares}
use Rattle.bindings.specs.Trails.{Back, Since, one_bound, bound_count, linked_from, trail_within, trail, Linked, Sound, TermIn}
use Rattle.bindings.specs.Checks.{within?, width, spans?, stands?, declares?, back_from, back_within, undone, marked?, ended?, linked_by?, linked?, sound?}
use Rattle.bindings.proofs.Chains.{bound_count_less}

-- ── terms ──

pub within_true : (n : ℕ) (t : Term) → Within n t → within? n t ≡ true
unfolding within?
within_true n (var x) h = lt-ltb x n h
within_true n (atom a) h = refl
within_true n (pair s t) h = and_from _ _ (within_true n s h.0) (within_true n t h.1)

pub true_within : (n : ℕ) (t : Term) → within? n t ≡ true → Within n t
unfolding within?
true_within n (var x) h = ltb-true x n h
true_within n (atom a) h = tt
true_within n (pair s t) h = let b = and_parts (within? n s) (within? n t) h in (true_within n s b.0, true_within n t b.1)

-- A term ends where its bytes do.
spans_width : (text : List ℕ) (p : ℕ) (t : Term) (q : ℕ) → Spans text p t q → q ≡ p + width t
unfolding width
spans_width text p (var x) q h = h.3
spans_width text p (atom a) q h = h.3
spans_width text p (pair s t) q h =
    let i = spans_width text (p + 1) s h.2.0 h.2.1 in
    let j = spans_width text h.2.0 t q h.2.2 in
    omega arith

pub spans_true : (text : List ℕ) (p : ℕ) (t : Term) (q : ℕ) → Spans text p t q → spans? text p t ≡ true
unfolding spans?
spans_true text p (var x) q h = and_from _ _ (lt-ltb _ _ h.0) (and_from _ _ (eq-eqb _ _ h.1) (eq-eqb _ _ h.2))
spans_true text p (atom a) q h = and_from _ _ (lt-ltb _ _ h.0) (and_from _ _ (eq-eqb _ _ h.1) (eq-eqb _ _ h.2))
spans_true text p (pair s t) q h =
    let e = spans_width text (p + 1) s h.2.0 h.2.1 in
    and_from _ _ (lt-ltb _ _ h.0) (and_from _ _ (eq-eqb _ _ h.1)
    (and_from _ _ (spans_true text (p + 1) s h.2.0 h.2.1) (spans_true text (p + 1 + width s) t q (subst (λ (m : ℕ). Spans text m t q) e h.2.2))))

pub true_spans : (text : List ℕ) (p : ℕ) (t : Term) → spans? text p t ≡ true → Spans text p t (p + width t)
unfolding spans? width
true_spans text p (var x) h =
    let a = and_parts _ _ h in
    let b = and_parts _ _ a.1 in
    (ltb-true _ _ a.0, eqb-true _ _ b.0, eqb-true _ _ b.1, refl)
true_spans text p (atom x) h =
    let a = and_parts _ _ h in
    let b = and_parts _ _ a.1 in
    (ltb-true _ _ a.0, eqb-true _ _ b.0, eqb-true _ _ b.1, refl)
true_spans text p (pair s t) h =
    let e : p + 1 + width s + width t ≡ p + (1 + width s + width t) = omega arith in
    let a = and_parts _ _ h in
    let b = and_parts _ _ a.1 in
    let c = and_parts _ _ b.1 in
    let rest = subst (λ (q : ℕ). Spans text (p + 1 + width s) t q) e (true_spans text (p + 1 + width s) t c.1) in
    (ltb-true _ _ a.0, eqb-true _ _ b.0, (p + 1 + width s, true_spans text (p + 1) s c.0, rest))

pub stands_true : {text : List ℕ} {n p l : ℕ} → Stands text n p l → stands? text n p l ≡ true
unfolding stands?
stands_true {text} {n} {p} {l} s = and_from _ _ (spans_true text p (tree text p) s.end s.spans) (within_true n (term text p l) s.within)

pub true_stands : {text : List ℕ} {n p l : ℕ} → stands? text n p l ≡ true → Stands text n p l
unfolding stands?
true_stands {text} {n} {p} {l} h =
    let b = and_parts _ _ h in
    record { end = p + width (tree text p); spans = true_spans text p (tree text p) b.0; within = true_within n (term text p l) b.1 }

pub declares_true : {text : List ℕ} {v p : ℕ} → Declares text v p → declares? text v p ≡ true
unfolding declares?
declares_true {text} {v} {p} d = and_from _ _ (spans_true text p (tree text p) d.end d.spans) (within_true v (tree text p) d.within)

pub true_declares : {text : List ℕ} {v p : ℕ} → declares? text v p ≡ true → Declares text v p
unfolding declares?
true_declares {text} {v} {p} h =
    let b = and_parts _ _ h in
    record { end = p + width (tree text p); spans = true_spans text p (tree text p) b.0; within = true_within v (tree text p) b.1 }

-- ── marks ──

bound_is : (c : Cell) → (c ≡ None → ⊥) → one_bound c ≡ 1
bound_is None f = absurd (f refl)
bound_is (Some b) f = refl

bound_inside : (cs : List Cell) (h : ℕ) (b : Binding) → get_or cs h None ≡ Some b → h < length cs
bound_inside cs h b e = elim (dec_le (length cs) h) [ yes g ↦ absurd (none-some b (sym (get_or_past cs h None g) ∙ e)) | no g ↦ omega arith ]

bound_few : (cs : List Cell) → bound_count cs ≤ length cs
bound_few [] = omega arith
bound_few (None ∷ cs) = omega (arith, bound_few cs)
bound_few (Some b ∷ cs) = omega (arith, bound_few cs)

-- Each link frees a cell.
back_count : (n : ℕ) (was : List Cell) (m : ℕ) (cs : List Cell) (h : ℕ) → Back n was m cs h → n ≤ bound_count cs
unfolding Back
back_count zero was m cs h b = omega arith
back_count (suc n) was m cs h b =
    let i = back_count n was m (set cs h None) b.2.0.before b.2.2 in
    let j = bound_count_less cs h b.2.0 b.0 b.2.1 in
    omega arith

back_gone : (k n : ℕ) (was : List Cell) (m : ℕ) (cs : List Cell) (h : ℕ) → k ≤ n → Back k was m cs h → back_within n cs h m ≡ (was, m)
unfolding Back back_within
back_gone zero zero was m cs h l b = ap₂ (λ (x : List Cell) (y : ℕ). (x, y)) b.0 b.1
back_gone zero (suc n) was m cs h l b =
    ap (λ (t : Bool). cond t (cs, h) (back_from (get_or cs h None) cs h (λ x. back_within n (set cs h None) x m))) (eq-eqb h m b.1)
    ∙ ap₂ (λ (x : List Cell) (y : ℕ). (x, y)) b.0 b.1
back_gone (suc k) zero was m cs h l b = absurd (omega arith)
back_gone (suc k) (suc n) was m cs h l b =
    ap (λ (t : Bool). cond t (cs, h) (back_from (get_or cs h None) cs h (λ x. back_within n (set cs h None) x m))) (ne_eqb h m b.1)
    ∙ ap (λ (c : Cell). back_from c cs h (λ x. back_within n (set cs h None) x m)) b.2.1
    ∙ back_gone k n was m (set cs h None) b.2.0.before (omega arith) b.2.2

gone_back : (n : ℕ) (m : ℕ) (cs : List Cell) (h : ℕ) → (back_within n cs h m).1 ≡ m → (k : ℕ) × Back k (back_within n cs h m).0 m cs h
unfolding Back back_within
gone_back zero m cs h e = (0, (refl, e))
gone_back (suc n) m cs h e = test (eqb h m) refl (λ b. gone_back n m (set cs h None) b) e
  where
    on : Cell → List Cell × ℕ
    on c = back_from c cs h (λ x. back_within n (set cs h None) x m)

    Older : Type 0
    Older = (b : ℕ) → (back_within n (set cs h None) b m).1 ≡ m → (k : ℕ) × Back k (back_within n (set cs h None) b m).0 m (set cs h None) b

    follow : (c : Cell) → get_or cs h None ≡ c → (h ≡ m → ⊥) → Older → (on c).1 ≡ m → (k : ℕ) × Back k (on c).0 m cs h
    follow None f ne older e = absurd (ne e)
    follow (Some b) f ne older e = let r = older b.before e in (suc r.0, (bound_inside cs h b f, ne, (b, f, r.1)))

    test : (t : Bool) → eqb h m ≡ t → Older → (cond t (cs, h) (on (get_or cs h None))).1 ≡ m → (k : ℕ) × Back k (cond t (cs, h) (on (get_or cs h None))).0 m cs h
    test true q older e = (0, (refl, e))
    test false q older e = follow (get_or cs h None) refl (eqb-false h m q) older e

-- The cells at a mark are those that the links lead back to.
since_gone : {was : List Cell} {m : ℕ} {cs : List Cell} {h : ℕ} → Since was m cs h → back_within (length cs) cs h m ≡ (was, m)
since_gone {was} {m} {cs} {h} s =
    back_gone s.links (length cs) was m cs h (omega (arith, back_count s.links was m cs h s.chain, bound_few cs)) s.chain

pub since_undone : (was : List Cell) (m : ℕ) (cells : List Cell) (h : ℕ) → Since was m cells h → undone cells h m ≡ was
unfolding undone
since_undone was m cells h s = ap (λ (r : List Cell × ℕ). r.0) (since_gone s)

pub since_true : {was : List Cell} {m : ℕ} {cells : List Cell} {h : ℕ} → Since was m cells h → marked? cells h m ≡ true
unfolding marked?
since_true {was} {m} {cells} {h} s =
    and_from _ _ kept (eq-eqb _ _ (ap (λ (r : List Cell × ℕ). r.1) (since_gone s)))
  where
    kept : (leb (length cells) m || eqb (one_bound (get_or cells m None)) 1) ≡ true
    kept = elim (dec_le (length cells) m) [
      | yes g ↦ or_left _ _ (le-leb _ _ g)
      | no g ↦ or_right _ _ (eq-eqb _ _ (bound_is (get_or cells m None) (s.mark (omega arith))))
    ]

pub true_since : {cells : List Cell} {h m : ℕ} → marked? cells h m ≡ true → Since (undone cells h m) m cells h
unfolding marked? undone
true_since {cells} {h} {m} e =
    let b = and_parts _ _ e in
    let r = gone_back (length cells) m cells h (eqb-true _ _ b.1) in
    record { mark = kept b.0; links = r.0; chain = r.1 }
  where
    kept : (leb (length cells) m || eqb (one_bound (get_or cells m None)) 1) ≡ true → m < length cells → get_or cells m None ≡ None → ⊥
    kept k lt f = elim (or_cases (leb (length cells) m) (eqb (one_bound (get_or cells m None)) 1) k) [
      | inl g ↦ omega (arith, leb-true (length cells) m g)
      | inr g ↦ omega (arith, eqb-true (one_bound (get_or cells m None)) 1 g, ap one_bound f)
    ]

-- ── the trail ──

none_counted : (cs : List Cell) → ((i : ℕ) → get_or cs i None ≡ None) → bound_count cs ≡ 0
none_counted [] f = refl
none_counted (c ∷ cs) f = let e : one_bound c ≡ 0 = ap one_bound (f 0) in omega (arith, none_counted cs (λ i. f (suc i)))

counted_none : (cs : List Cell) → bound_count cs ≡ 0 → (i : ℕ) → get_or cs i None ≡ None
counted_none [] e i = refl
counted_none (None ∷ cs) e zero = refl
counted_none (None ∷ cs) e (suc i) = counted_none cs (omega arith) i
counted_none (Some b ∷ cs) e i = absurd (omega arith)

ended_true : (text : List ℕ) (used : ℕ) (cs : List Cell) (h : ℕ) → Linked text used cs h [] → ended? cs h ≡ true
unfolding Linked ended?
ended_true text used cs h k = and_from _ _ (eq-eqb _ _ k.0) (eq-eqb _ _ (none_counted cs k.1))

true_ended : (text : List ℕ) (used : ℕ) (cs : List Cell) (h : ℕ) → ended? cs h ≡ true → Linked text used cs h []
unfolding Linked ended?
true_ended text used cs h e = let b = and_parts _ _ e in (eqb-true _ _ b.0, counted_none cs (eqb-true _ _ b.1))

-- One cell's part in both, whatever is older.
module _ (text : List ℕ) (used : ℕ) (cs : List Cell) (h : ℕ) (older : ℕ → Trail) (rest : ℕ → Bool) where
  abbrev fresh_in : ℕ → Term → Bool
  fresh_in b t = not (occurs h (meaning (older b) t))

  cell_true : (c : Cell) → get_or cs h None ≡ c → ((b : ℕ) → Linked text used (set cs h None) b (older b) → rest b ≡ true)
      → Linked text used cs h (linked_from c h text older) → linked_by? c text used cs h fresh_in rest ≡ true
  unfolding Linked
  cell_true None f on e = ended_true text used cs h e
  cell_true (Some b) f on e =
      let i = e.0.is in
      let q : e.0.binding ≡ b = cc in
      let st : TermIn text used b.term = subst (λ (x : Binding). TermIn text used x.term) q e.0.stands in
      and_from _ _ (lt-ltb _ _ e.0.inside) (and_from _ _ (stands_true st)
      (and_from _ _ (not_from_false _ e.1) (on b.before (subst (λ (x : Binding). Linked text used (set cs h None) x.before (older b.before)) q e.2))))

  true_cell : (c : Cell) → get_or cs h None ≡ c → ((b : ℕ) → rest b ≡ true → Linked text used (set cs h None) b (older b))
      → linked_by? c text used cs h fresh_in rest ≡ true → Linked text used cs h (linked_from c h text older)
  unfolding Linked
  true_cell None f on k = true_ended text used cs h k
  true_cell (Some b) f on k =
      let x = and_parts _ _ k in
      let y = and_parts _ _ x.1 in
      let z = and_parts _ _ y.1 in (
        record { binding = b; inside = ltb-true _ _ x.0; is = f; names = refl; holds = refl; stands = true_stands y.0 },
        not-true _ z.0,
        on b.before z.1,
      )

linked_true : (n : ℕ) (text : List ℕ) (used : ℕ) (cs : List Cell) (h : ℕ) → Linked text used cs h (trail_within n text cs h) → linked? n text used cs h ≡ true
unfolding linked? trail_within
linked_true zero text used cs h k = ended_true text used cs h k
linked_true (suc n) text used cs h k =
    cell_true text used cs h (λ b. trail_within n text (set cs h None) b) (λ b. linked? n text used (set cs h None) b) (get_or cs h None) refl
    (λ b. linked_true n text used (set cs h None) b) k

true_linked : (n : ℕ) (text : List ℕ) (used : ℕ) (cs : List Cell) (h : ℕ) → linked? n text used cs h ≡ true → Linked text used cs h (trail_within n text cs h)
unfolding linked? trail_within
true_linked zero text used cs h e = true_ended text used cs h e
true_linked (suc n) text used cs h e =
    true_cell text used cs h (λ b. trail_within n text (set cs h None) b) (λ b. linked? n text used (set cs h None) b) (get_or cs h None) refl
    (λ b. true_linked n text used (set cs h None) b) e

pub sound_true : {text : List ℕ} {used : ℕ} {cells : List Cell} {h : ℕ} → Sound text used cells h → sound? text used cells h ≡ true
unfolding sound? trail
sound_true {text} {used} {cells} {h} s =
    and_from _ _ (lt-ltb _ _ s.short) (and_from _ _ (le-leb _ _ s.room) (and_from _ _ (le-leb _ _ s.few)
    (linked_true (length cells) text used cells h s.linked)))

pub true_sound : {text : List ℕ} {used : ℕ} {cells : List Cell} {h : ℕ} → sound? text used cells h ≡ true → Sound text used cells h
unfolding sound? trail
true_sound {text} {used} {cells} {h} e =
    let x = and_parts _ _ e in
    let y = and_parts _ _ x.1 in
    let z = and_parts _ _ y.1 in
    record {
      short = ltb-true _ _ x.0;
      room = leb-true _ _ y.0;
      few = leb-true _ _ z.0;
      linked = true_linked (length cells) text used cells h z.1;
    }
