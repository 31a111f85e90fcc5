-- What an allowance does to a call of next. Assumes nothing.
use Rattle.std.proofs.Common.{◌≡◌, ℕ, zero, suc, ◌+◌, ◌-◌, ◌≤◌, Bool, true, false, cond, ltb, leb, List, [], ◌∷◌, length, Ok, sym, refl, ap, ◌∙◌, subst, ap₂, suc-add, arith, le→leb, leb→le}
use mathlib.Core.Option.{Option, none, some}
use lib.Dec.{not_T}
use Rattle.terms.specs.Terms.{Term, Rule}
use Rattle.unification.proofs.Choice.{T→true, not_T→false, cond_by}
use Rattle.resolution.specs.declared.Stop.{Stop}
use Rattle.resolution.specs.declared.Word.{Word}
use Rattle.resolution.specs.declared.Word.TheVariants.{Answer, Spent, Stopped, NoMore}
use Rattle.resolution.specs.Limits.{allowance_limit}
use Rattle.resolution.specs.Lines.{Step, Place, Turn, ends, goes_on, before, back, stop, unless_stopped, due_line, line_for, line, End, onward, lines}
use Rattle.resolution.specs.Search.{Condition, running, standing, ended, stopped, Search, answers_after, condition_after, Called, settled, refused, continued, next}
use Rattle.resolution.specs.Laws.{Refuses, Counts, Counted, IfTold, KeepsToAllowance, Says, more_tries, Splits}
use Rattle.resolution.proofs.Lines.{Final, one_by_one, lines_by, lines_final, lines_left}

pub refuses : Refuses
refuses rs a s = (
  λ h. ap choice (not_T→false (leb a allowance_limit) (not_T (leb a allowance_limit) (λ t. omega (arith, h, leb→le a allowance_limit t)))),
  λ h. ap choice (T→true (leb a allowance_limit) (le→leb a allowance_limit h)),
)
  where
    choice : Bool → Called
    choice b = cond b (continued rs a s s.condition) (refused s)

-- ── tries and the allowance ──

counts : (rs : List Rule) (a : ℕ) (w : Word) (left : ℕ) (p : Place) → left ≤ a → Final rs w left p → Counts a (a - left) w
counts rs a Answer left p h f = omega arith
counts rs a Spent left p h f = omega (arith, f)
counts rs a (Stopped why) left p h f = omega (arith, f, h)
counts rs a NoMore left p h f = omega arith

lines_count : (rs : List Rule) (a : ℕ) (p : Place) → Counts a (a - (lines rs a p).left) (lines rs a p).word
lines_count rs a p = counts rs a (lines rs a p).word (lines rs a p).left (lines rs a p).place (lines_left rs a p) (lines_final rs a p)

leaving_counts : (rs : List Rule) (a : ℕ) (p : Place) (fs : List Step)
    → let e : End = onward (lines rs) a p (back a fs) in Counts a (a - e.left) e.word
leaving_counts rs a p [] = omega arith
leaving_counts rs a p (f ∷ fs) = lines_count rs a (before f fs)

continued_counts : (rs : List Rule) (a : ℕ) (s : Search) (c : Condition) → IfTold (λ o. Counted a o c) (continued rs a s c).result
continued_counts rs a s running = lines_count rs a s.place
continued_counts rs a s standing = leaving_counts rs a s.place s.place.branch
continued_counts rs a s ended = refl
continued_counts rs a s (stopped why) = refl

pub keeps_to_allowance : KeepsToAllowance
keeps_to_allowance rs a s =
    cond_by (λ (c : Called). IfTold (λ o. Counted a o s.condition) c.result) (leb a allowance_limit)
    (λ _. continued_counts rs a s s.condition) (λ _. tt)

-- ── an allowance in two parts ──

-- the turn t' with b tries more than the turn t
abbrev More : ℕ → Turn → Turn → Type 0
More b (ends w) t' = Unit {0}
More b (goes_on l p) t' = t' ≡ goes_on (l + b) p

module _ (rs : List Rule) (b : ℕ) where
  cond_more : (k : Bool) (t u t' u' : Turn) → More b t t' → More b u u' → More b (cond k t u) (cond k t' u')
  cond_more true t u t' u' h j = h
  cond_more false t u t' u' h j = j

  back_more : (left : ℕ) (fs : List Step) → More b (back left fs) (back (left + b) fs)
  back_more left [] = tt
  back_more left (f ∷ fs) = refl

  unless_more : (left : ℕ) (p : Place) (g : Term) (rest : List Term) (o : Option Stop) → More b (unless_stopped rs left p g rest o) (unless_stopped rs (left + b) p g rest o)
  unless_more left p g rest (some why) = tt
  unless_more left p g rest none = refl

  due_more : (left : ℕ) (p : Place) (g : Term) (rest : List Term) → More b (due_line rs left p g rest) (due_line rs (left + b) p g rest)
  due_more zero p g rest = tt
  due_more (suc left) p g rest =
      subst (λ (n : ℕ). More b (due_line rs (suc left) p g rest) (due_line rs n p g rest)) (sym (suc-add left b)) (unless_more left p g rest (stop rs p))

  line_more : (left : ℕ) (p : Place) (goals : List Term) → More b (line_for rs left p goals) (line_for rs (left + b) p goals)
  line_more left p [] = tt
  line_more left p (g ∷ rest) =
      cond_more (ltb p.due (length rs)) (due_line rs left p g rest) (back left p.branch) (due_line rs (left + b) p g rest) (back (left + b) p.branch)
      (due_more left p g rest) (back_more left p.branch)

  -- where a call is spent, one with b tries more goes on from there
  lines_more : (left : ℕ) (p : Place) → (lines rs left p).word ≡ Spent → lines rs (left + b) p ≡ lines rs b (lines rs left p).place
  lines_more left p =
      lines_by rs (λ l p e. e.word ≡ Spent → lines rs (l + b) p ≡ lines rs b e.place)
      (λ l p w e k.
      let z : l ≡ 0 = subst (λ (v : Word). Final rs v l p) k (ended_at l p w e) in
      ap (λ (n : ℕ). lines rs n p) (omega (arith, z)))
      (λ l p l' p' e eq ih k.
      one_by_one rs (l + b) p ∙ ap (onward (lines rs) (l + b) p) (subst (λ (t : Turn). More b t (line rs (l + b) p)) eq (line_more l p p.goals)) ∙ ih k) left p
    where
      ended_at : (l : ℕ) (p : Place) (w : Word) → line rs l p ≡ ends w → Final rs w l p
      ended_at l p w e =
          subst (λ (x : End). Final rs x.word x.left x.place) (one_by_one rs l p ∙ ap (onward (lines rs) l p) e) (lines_final rs l p)

IsSpent : Word → Type 0
IsSpent Answer = ⊥
IsSpent Spent = Unit {0}
IsSpent (Stopped why) = ⊥
IsSpent NoMore = ⊥

-- a call and what another adds to it
abbrev joined : ℕ → Called → Called
joined a c = record { result = more_tries a c.result; search = c.search }

module _ (rs : List Rule) (a b : ℕ) (s : Search) where
  -- the first call ended spent at the place p; the second ended with e
  two_parts : (p : Place) (e : End) → e.left ≤ b
      → settled (a + b) s e ≡ joined a (settled b (settled a s (record { word = Spent; left = 0; place = p })).search e)
  two_parts p e h = ap₂ made (omega (arith, h)) (omega (arith, h))
    where
      made : ℕ → ℕ → Called
      made n t =
          record {
            result = Ok (record { word = e.word; tries = n });
            search = record { condition = condition_after e.word; place = e.place; tries = t; answers = answers_after e.word s.answers };
          }

  settled_splits : (w : Word) (left : ℕ) (p : Place) (e' : End) → w ≡ Spent → Final rs w left p → e' ≡ lines rs b p
      → let t : Search = (settled a s (record { word = w; left = left; place = p })).search in
      settled (a + b) s e' ≡ joined a (continued rs b t t.condition)
  unfolding IsSpent
  settled_splits Answer left p e' k f h = absurd (subst IsSpent (sym k) tt)
  settled_splits Spent left p e' k f h =
      ap (settled (a + b) s) h ∙ two_parts p (lines rs b p) (lines_left rs b p)
      ∙ ap (λ (l : ℕ). joined a (settled b (settled a s (record { word = Spent; left = l; place = p })).search (lines rs b p))) (sym f)
  settled_splits (Stopped why) left p e' k f h = absurd (subst IsSpent (sym k) tt)
  settled_splits NoMore left p e' k f h = absurd (subst IsSpent (sym k) tt)

  lines_split : (p : Place) → (lines rs a p).word ≡ Spent
      → let t : Search = (settled a s (lines rs a p)).search in settled (a + b) s (lines rs (a + b) p) ≡ joined a (continued rs b t t.condition)
  lines_split p k =
      settled_splits (lines rs a p).word (lines rs a p).left (lines rs a p).place (lines rs (a + b) p) k (lines_final rs a p) (lines_more rs b a p k)

  leaving_splits : (p : Place) (fs : List Step) → (onward (lines rs) a p (back a fs)).word ≡ Spent
      → let t : Search = (settled a s (onward (lines rs) a p (back a fs))).search in
      settled (a + b) s (onward (lines rs) (a + b) p (back (a + b) fs)) ≡ joined a (continued rs b t t.condition)
  unfolding IsSpent
  leaving_splits p [] k = absurd (subst IsSpent (sym k) tt)
  leaving_splits p (f ∷ fs) k = lines_split (before f fs) k

  continued_splits : (c : Condition) → Says Spent (continued rs a s c).result
      → let t : Search = (continued rs a s c).search in continued rs (a + b) s c ≡ joined a (continued rs b t t.condition)
  unfolding IsSpent
  continued_splits running k = lines_split s.place k
  continued_splits standing k = leaving_splits s.place s.place.branch k
  continued_splits ended k = absurd (subst IsSpent (sym k) tt)
  continued_splits (stopped why) k = absurd (subst IsSpent (sym k) tt)

pub splits : Splits
splits rs a b s h k =
    (refuses rs (a + b) s).1 h
    ∙ continued_splits rs a b s s.condition (subst (λ (c : Called). Says Spent c.result) first k)
    ∙ sym (ap (joined a) (ap (λ (c : Called). next rs b c.search) first ∙ second))
  where
    first : next rs a s ≡ continued rs a s s.condition
    first = (refuses rs a s).1 (omega (arith, h))

    second : next rs b (continued rs a s s.condition).search
        ≡ continued rs b (continued rs a s s.condition).search (continued rs a s s.condition).search.condition
    second = (refuses rs b (continued rs a s s.condition).search).1 (omega (arith, h))
