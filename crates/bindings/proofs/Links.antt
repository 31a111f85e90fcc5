-- The trail that is read off the cells: its bindings, its marks, one binding more. Assumes nothing.
use Rattle.std.proofs.Common.{◌≡◌, ℕ, zero, suc, ◌+◌, ◌++◌, ◌<◌, ◌≤◌, false, ◌≢◌, List, [], ◌∷◌, length, get_or, set, replicate, sym, refl, ap, ◌∙◌, subst, ap₂, inl, inr, arith, ne_eqb, length-set, get_or-set_other, get_or-set_same, Some, None}
use Rattle.std.proofs.lemmas.Bool.{cases_eq}
use Rattle.std.proofs.lemmas.Option.{none-some}
use Rattle.terms.specs.Terms.{Term, var}
use Rattle.unification.specs.Variables.{occurs}
use Rattle.bindings.specs.declared.Binding.{Binding}
use Rattle.bindings.specs.declared.TermAt.{TermAt}
use Rattle.bindings.specs.Cells.{Cell}
use Rattle.bindings.specs.Meanings.{Trail, meaning, Unbound, Binds, Acyclic, size, lookups, AllSized}
use Rattle.bindings.specs.Texts.{term, Stands}
use Rattle.bindings.specs.Trails.{Since, Back, one_free, free_count, linked_from, trail_within, trail, none_bound, Linked, Sound, TermIn, meaning_at, size_bound}
use Rattle.bindings.specs.Endings.{Applied}
use Rattle.bindings.proofs.Meanings.{meaning_unbound, meaning_bound, lookups_bound, meaning_size, size_positive, growth_grows}
use Rattle.bindings.proofs.Chains.{free_count_more, back_cells}
use Rattle.bindings.proofs.Texts.{stands_size, stands_more}

-- ── a chain and its trail ──

abbrev longer : Trail → ℕ → Term → Trail
longer L x t = (x, t) ∷ L

-- The trail that the chain is, is the one that is read off.
linked_within : (text : List ℕ) (n : ℕ) (L : Trail) (k : ℕ) (cs : List Cell) (h : ℕ) → length L ≤ k → Linked text n cs h L → trail_within k text cs h ≡ L
unfolding Linked trail_within
linked_within text n [] zero cs h l e = refl
linked_within text n [] (suc k) cs h l e = ap (λ (c : Cell). linked_from c h text (λ b. trail_within k text (set cs h None) b)) (e.1 h)
linked_within text n (b ∷ L) zero cs h l e = absurd (omega arith)
linked_within text n (b ∷ L) (suc k) cs h l e =
    let link = e.0 in
    ap (λ (c : Cell). linked_from c h text (λ x. trail_within k text (set cs h None) x)) link.is
    ∙ ap (λ (M : Trail). (h, term text link.binding.term.place link.binding.term.level) ∷ M) (linked_within text n L k (set cs h None) link.binding.before (omega arith) e.2)
    ∙ ap₂ (longer L) (sym link.names) (sym link.holds)

all_free : (cs : List Cell) → ((i : ℕ) → get_or cs i None ≡ None) → free_count cs ≡ length cs
all_free [] f = refl
all_free (c ∷ cs) f = let e : one_free c ≡ 1 = ap one_free (f 0) in omega (arith, all_free cs (λ i. f (suc i)))

-- Each cell is free or on the chain.
pub linked_length : (text : List ℕ) (n : ℕ) (L : Trail) (cs : List Cell) (h : ℕ) → n ≤ length cs → Linked text n cs h L → free_count cs + length L ≡ length cs
unfolding Linked
linked_length text n [] cs h r e = omega (arith, all_free cs e.1)
linked_length text n (b ∷ L) cs h r e =
    let k = e.0 in
    let i = linked_length text n L (set cs h None) k.binding.before (omega (arith, r, length-set cs h None)) e.2 in
    let f = free_count_more cs h k.binding (omega (arith, k.inside, r)) k.is in
    omega (arith, length-set cs h None)

pub linked_trail : (text : List ℕ) (n : ℕ) (L : Trail) (cs : List Cell) (h : ℕ) → n ≤ length cs → Linked text n cs h L → trail text cs h ≡ L
unfolding trail
linked_trail text n L cs h r e = linked_within text n L (length cs) cs h (omega (arith, linked_length text n L cs h r e)) e

-- A free cell has no binding.
pub linked_free : (text : List ℕ) (n : ℕ) (L : Trail) (cs : List Cell) (h c : ℕ) → Linked text n cs h L → get_or cs c None ≡ None → Unbound c L
unfolding Linked
linked_free text n [] cs h c e f = tt
linked_free text n (b ∷ L) cs h c e f =
    let ne : c ≢ h = λ q. none-some _ (sym (subst (λ (x : ℕ). get_or cs x None ≡ None) q f) ∙ e.0.is) in
    (ne_eqb b.0 c (λ q. ne (sym q ∙ e.0.names)), linked_free text n L (set cs h None) e.0.binding.before c e.2 (get_or-set_other cs h c None None ne ∙ f))

-- A cell that is not in use is free.
pub linked_unused : (text : List ℕ) (n : ℕ) (L : Trail) (cs : List Cell) (h c : ℕ) → Linked text n cs h L → n ≤ c → get_or cs c None ≡ None
unfolding Linked
linked_unused text n [] cs h c e l = e.1 c
linked_unused text n (b ∷ L) cs h c e l =
    let ne : c ≢ h = λ q. omega (arith, e.0.inside, l, q) in
    sym (get_or-set_other cs h c None None ne) ∙ linked_unused text n L (set cs h None) e.0.binding.before c e.2 l

linked_acyclic : (text : List ℕ) (n : ℕ) (L : Trail) (cs : List Cell) (h : ℕ) → n ≤ length cs → Linked text n cs h L → Acyclic L
unfolding Linked
linked_acyclic text n [] cs h r e = tt
linked_acyclic text n (b ∷ L) cs h r e =
    let k = e.0 in (
      subst (λ (x : ℕ). Unbound x L) (sym k.names) (linked_free text n L (set cs h None) k.binding.before h e.2 (get_or-set_same cs h None None (omega (arith, k.inside, r)))),
      e.1,
      linked_acyclic text n L (set cs h None) k.binding.before (omega (arith, r, length-set cs h None)) e.2,
    )

-- A bound cell has its binding on the trail, and the term stands.
linked_binds : (text : List ℕ) (n : ℕ) (L : Trail) (cs : List Cell) (h c : ℕ) (o : Binding) → Linked text n cs h L → get_or cs c None ≡ Some o
    → Binds c (term text o.term.place o.term.level) L × TermIn text n o.term
unfolding Linked
linked_binds text n [] cs h c o e f = absurd (none-some o (sym (e.1 c) ∙ f))
linked_binds text n (b ∷ L) cs h c o e f =
    elim (cases_eq c h) [
      | inl q ↦
          let k = e.0 in
          let g : get_or cs h None ≡ Some o = subst (λ (x : ℕ). get_or cs x None ≡ Some o) q f in
          let i = k.is in
          let same : k.binding ≡ o = cc in (
            inl (k.names ∙ sym q, k.holds ∙ ap (λ (x : Binding). term text x.term.place x.term.level) same),
            subst (λ (x : Binding). TermIn text n x.term) same k.stands,
          )
      | inr ne ↦
          let r = linked_binds text n L (set cs h None) e.0.binding.before c o e.2 (get_or-set_other cs h c None None ne ∙ f) in
          (inr r.0, r.1)
    ]

linked_sized : (text : List ℕ) (n : ℕ) (L : Trail) (cs : List Cell) (h : ℕ) → Linked text n cs h L → AllSized (length text) L
unfolding Linked
linked_sized text n [] cs h e = tt
linked_sized text n (b ∷ L) cs h e =
    let s = stands_size e.0.stands in
    (subst (λ (t : Term). size t ≤ length text) (sym e.0.holds) s, linked_sized text n L (set cs h None) e.0.binding.before e.2)

-- More cells in use.
linked_more : (text : List ℕ) (n m : ℕ) (L : Trail) (cs : List Cell) (h : ℕ) → n ≤ m → Linked text n cs h L → Linked text m cs h L
unfolding Linked
linked_more text n m [] cs h l e = e
linked_more text n m (b ∷ L) cs h l e =
    let k = e.0 in (
      record {
        binding = k.binding;
        inside = omega (arith, k.inside, l);
        is = k.is;
        names = k.names;
        holds = k.holds;
        stands = stands_more l k.stands;
      },
      e.1,
      linked_more text n m L (set cs h None) k.binding.before l e.2,
    )

pub sound_more : {text : List ℕ} {n m : ℕ} {cs : List Cell} {h : ℕ} → n ≤ m → m ≤ length cs → Sound text n cs h → Sound text m cs h
sound_more {text} {n} {m} {cs} {h} l r g =
    record { short = g.short; room = r; few = g.few; linked = linked_more text n m (trail text cs h) cs h l g.linked }

-- ── free cells alone ──

free_linked : (text : List ℕ) (n : ℕ) (cs : List Cell) → ((i : ℕ) → get_or cs i None ≡ None) → Linked text n cs none_bound []
unfolding Linked
free_linked text n cs f = (refl, f)

pub free_trail : (text : List ℕ) (cs : List Cell) → ((i : ℕ) → get_or cs i None ≡ None) → trail text cs none_bound ≡ []
free_trail text cs f = linked_trail text 0 [] cs none_bound (omega arith) (free_linked text 0 cs f)

pub free_sound : (text : List ℕ) (n : ℕ) (cs : List Cell) → length text < 65536 → n ≤ length cs → length cs ≤ none_bound → ((i : ℕ) → get_or cs i None ≡ None) → Sound text n cs none_bound
free_sound text n cs s r w f =
    record { short = s; room = r; few = w; linked = subst (λ (M : Trail). Linked text n cs none_bound M) (sym (free_trail text cs f)) (free_linked text n cs f) }

pub filled_free : (n i : ℕ) → get_or {A = Cell} (replicate n None) i None ≡ None
filled_free zero i = refl
filled_free (suc n) zero = refl
filled_free (suc n) (suc i) = filled_free n i

-- ── cells in order ──

module _ {text : List ℕ} {n : ℕ} {cs : List Cell} {h : ℕ} (sound : Sound text n cs h) where
  pub sound_unbound : (c : ℕ) → get_or cs c None ≡ None → Unbound c (trail text cs h)
  sound_unbound c f = linked_free text n (trail text cs h) cs h c sound.linked f

  pub sound_free : (c : ℕ) → get_or cs c None ≡ None → meaning (trail text cs h) (var c) ≡ var c
  sound_free c f = meaning_unbound c (trail text cs h) (sound_unbound c f)

  -- A cell that is not in use is free and has no binding.
  pub sound_unused : (c : ℕ) → n ≤ c → get_or cs c None ≡ None
  sound_unused c l = linked_unused text n (trail text cs h) cs h c sound.linked l

  -- To look up a bound cell and go on with its term keeps the meaning, and takes one look-up less.
  pub sound_bound : (c : ℕ) (o : Binding) → get_or cs c None ≡ Some o
      → (meaning (trail text cs h) (var c) ≡ meaning_at text cs h o.term)
      × (lookups (trail text cs h) (var c) ≡ suc (lookups (trail text cs h) (term text o.term.place o.term.level)))
      × TermIn text n o.term
  sound_bound c o f =
      let r = linked_binds text n (trail text cs h) cs h c o sound.linked f in
      let t = term text o.term.place o.term.level in
      let acyclic = linked_acyclic text n (trail text cs h) cs h sound.room sound.linked in
      (meaning_bound c t (trail text cs h) acyclic r.0, lookups_bound c t (trail text cs h) acyclic r.0, r.1)

  -- The newest bound cell is not free, so it marks the cells as they are.
  pub sound_mark : Since cs h cs h
  unfolding Linked Back
  sound_mark = record { mark = go (trail text cs h) sound.linked; links = 0; chain = (refl, refl) }
    where
      go : (L : Trail) → Linked text n cs h L → h < length cs → get_or cs h None ≡ None → ⊥
      go [] e lt f = omega (arith, sound.few, e.0)
      go (b ∷ L) e lt f = none-some _ (sym f ∙ e.0.is)

  pub sound_size : (p l : ℕ) → Stands text n p l → size (meaning (trail text cs h) (term text p l)) < size_bound text cs
  unfolding size_bound
  sound_size p l s =
      let z = stands_size s in
      let b = meaning_size (length text) (trail text cs h) (linked_sized text n (trail text cs h) cs h sound.linked) (term text p l) z in
      let m = linked_length text n (trail text cs h) cs h sound.room sound.linked in
      let g = growth_grows (length text) (length (trail text cs h)) (length cs) (omega (arith, size_positive (term text p l))) (omega arith) in
      omega arith

  module _ (i : ℕ) (t : TermAt) (lt : i < n) (fr : get_or cs i None ≡ None) (st : TermIn text n t)
      (oc : occurs i (meaning_at text cs h t) ≡ false) where
    -- the binding, and the cells with it
    abbrev now : Binding
    now = record { term = t; before = h }

    abbrev with_it : List Cell
    with_it = set cs i (Some now)

    inside : i < length cs
    inside = omega (arith, lt, sound.room)

    now_linked : Linked text n with_it i ((i, term text t.place t.level) ∷ trail text cs h)
    unfolding Linked
    now_linked = (
      record {
        binding = now;
        inside = lt;
        is = get_or-set_same cs i (Some now) None inside;
        names = refl;
        holds = refl;
        stands = st;
      },
      oc,
      subst (λ (ds : List Cell). Linked text n ds h (trail text cs h)) (sym (back_cells cs i (Some now) fr)) sound.linked,
    )

    -- A free cell bound is one binding more, and that is the one which the definition makes.
    pub bind_applied : Applied text n cs h with_it i ((i, meaning_at text cs h t) ∷ [])
    bind_applied =
        let room : n ≤ length with_it = omega (arith, sound.room, length-set cs i (Some now)) in
        let e : trail text with_it i ≡ (i, term text t.place t.level) ∷ trail text cs h = linked_trail text n _ _ i room now_linked in
        record {
          sound =
              record {
                short = sound.short;
                room = room;
                few = rw length-set sound.few;
                linked = subst (λ (M : Trail). Linked text n with_it i M) (sym e) now_linked;
              };
          means = λ t. ap (λ (M : Trail). meaning M t) e;
          fewer =
              let f = free_count_more with_it i now (rw length-set inside) (get_or-set_same cs i (Some now) None inside) in
              let b : free_count (set with_it i None) ≡ free_count cs = ap free_count (back_cells cs i (Some now) fr) in
              omega arith;
        }

-- ── marks ──

-- Back at a mark the bindings are those of the mark, which the later ones stand before.
pub record Older (text : List ℕ) (n : ℕ) (L : Trail) (was : List Cell) (m : ℕ) : Type 0 where
  pub newer : Trail
  pub older : Trail
  pub is : L ≡ newer ++ older
  pub linked : Linked text n was m older

back_older : (text : List ℕ) (n k : ℕ) (was : List Cell) (m : ℕ) (cs : List Cell) (h : ℕ) (L : Trail) → Back k was m cs h → Linked text n cs h L → Older text n L was m
unfolding Back Linked
back_older text n zero was m cs h L b e =
    record { newer = []; older = L; is = refl; linked = subst (λ (ds : List Cell). Linked text n ds m L) b.0 (subst (λ (x : ℕ). Linked text n cs x L) b.1 e) }
back_older text n (suc k) was m cs h [] b e = absurd (none-some b.2.0 (sym (e.1 h) ∙ b.2.1))
back_older text n (suc k) was m cs h (p ∷ L) b e =
    let link = e.0 in
    let i = link.is in
    let j = b.2.1 in
    let q : link.binding.before ≡ b.2.0.before = cc in
    let o = back_older text n k was m (set cs h None) b.2.0.before L b.2.2 (subst (λ (x : ℕ). Linked text n (set cs h None) x L) q e.2) in
    record { newer = p ∷ o.newer; older = o.older; is = ap (λ (M : Trail). p ∷ M) o.is; linked = o.linked }

back_length : (k : ℕ) (was : List Cell) (m : ℕ) (cs : List Cell) (h : ℕ) → Back k was m cs h → length was ≡ length cs
unfolding Back
back_length zero was m cs h b = ap length (sym b.0)
back_length (suc k) was m cs h b = back_length k was m (set cs h None) b.2.0.before b.2.2 ∙ length-set cs h None

-- There are as many cells at a mark.
pub since_length : {was : List Cell} {m : ℕ} {cs : List Cell} {h : ℕ} → Since was m cs h → length was ≡ length cs
since_length {was} {m} {cs} {h} s = back_length s.links was m cs h s.chain

-- The cells at a mark are in order.
pub since_sound : (text : List ℕ) (n : ℕ) (was : List Cell) (m : ℕ) (cs : List Cell) (h : ℕ) → Since was m cs h → Sound text n cs h → Sound text n was m
since_sound text n was m cs h s g =
    let l = back_length s.links was m cs h s.chain in
    let o = back_older text n s.links was m cs h (trail text cs h) s.chain g.linked in
    let r : n ≤ length was = omega (arith, g.room) in
    record {
      short = g.short;
      room = r;
      few = omega (arith, g.few);
      linked = subst (λ (M : Trail). Linked text n was m M) (sym (linked_trail text n o.older was m r o.linked)) o.linked;
    }

-- The trail at a mark is the last part of the trail now.
pub since_suffix : (text : List ℕ) (n : ℕ) (was : List Cell) (m : ℕ) (cs : List Cell) (h : ℕ) → Since was m cs h → Sound text n cs h
    → (newer : Trail) × (trail text cs h ≡ newer ++ trail text was m)
since_suffix text n was m cs h s g =
    let l = back_length s.links was m cs h s.chain in
    let o = back_older text n s.links was m cs h (trail text cs h) s.chain g.linked in
    (o.newer, (o.is ∙ ap (λ (M : Trail). o.newer ++ M) (sym (linked_trail text n o.older was m (omega (arith, g.room)) o.linked))))
