-- Answers come in dictionary order of their rule numbers. Assumes nothing.
use Rattle.std.proofs.Common.{◌≡◌, ℕ, suc, ◌<◌, ◌⊎◌, List, [], ◌∷◌, ◌++◌, length, sym, refl, subst, inl, inr, arith}
use mathlib.Core.Option.{Option, none, some}
use Rattle.terms.specs.Terms.{Term, Rule}
use Rattle.unification.specs.Variables.{shifted}
use Rattle.unification.specs.Substitutions.{Substitution}
use Rattle.unification.specs.Unification.{unify}
use Rattle.resolution.specs.declared.Word.{Word}
use Rattle.resolution.specs.declared.Word.TheVariants.{Answer, Spent, Stopped, NoMore}
use Rattle.resolution.specs.Rules.{rule}
use Rattle.resolution.specs.Lines.{Step, Place, rules_taken, before, back, landed, onward, lines}
use Rattle.resolution.specs.Search.{Condition, running, standing, ended, stopped, Search, condition_after, settled, continued}
use Rattle.resolution.specs.Calls.{Session, given_by, called}
use Rattle.resolution.specs.Laws.{Later, Ordered, InOrder}
use Rattle.resolution.proofs.Lines.{at, Final, lines_keep, lines_final}
use Rattle.resolution.proofs.Sessions.{sessions_keep, next_by}

-- every list that goes on from bs with the number `due` or a higher one comes after A
abbrev Beyond : List ℕ → List ℕ → ℕ → Type 0
Beyond [] bs due = ⊥
Beyond (a ∷ A) [] due = a < due
Beyond (a ∷ A) (b ∷ bs) due = (a < b) ⊎ ((a ≡ b) × Beyond A bs due)

beyond_next : (A bs : List ℕ) (d : ℕ) → Beyond A bs d → Beyond A bs (suc d)
beyond_next [] bs d h = h
beyond_next (a ∷ A) [] d h = omega (arith, h)
beyond_next (a ∷ A) (b ∷ bs) d (inl h) = inl h
beyond_next (a ∷ A) (b ∷ bs) d (inr h) = inr (h.0, beyond_next A bs d h.1)

beyond_taken : (A bs : List ℕ) (d : ℕ) → Beyond A bs d → Beyond A (bs ++ (d ∷ [])) 0
beyond_taken [] bs d h = h
beyond_taken (a ∷ A) [] d h = inl h
beyond_taken (a ∷ A) (b ∷ bs) d (inl h) = inl h
beyond_taken (a ∷ A) (b ∷ bs) d (inr h) = inr (h.0, beyond_taken A bs d h.1)

beyond_back : (A bs : List ℕ) (r d : ℕ) → Beyond A (bs ++ (r ∷ [])) d → Beyond A bs (suc r)
beyond_back [] bs r d h = h
beyond_back (a ∷ A) [] r d (inl h) = omega (arith, h)
beyond_back (a ∷ A) [] r d (inr h) = omega (arith, h.0)
beyond_back (a ∷ A) (b ∷ bs) r d (inl h) = inl h
beyond_back (a ∷ A) (b ∷ bs) r d (inr h) = inr (h.0, beyond_back A bs r d h.1)

beyond_left : (bs : List ℕ) (r : ℕ) → Beyond (bs ++ (r ∷ [])) bs (suc r)
beyond_left [] r = omega arith
beyond_left (b ∷ bs) r = inr (refl, beyond_left bs r)

beyond_later : (A bs : List ℕ) → Beyond A bs 0 → Later A bs
beyond_later [] bs h = absurd h
beyond_later (a ∷ A) [] h = omega (arith, h)
beyond_later (a ∷ A) (b ∷ bs) (inl h) = inl h
beyond_later (a ∷ A) (b ∷ bs) (inr h) = inr (h.0, beyond_later A bs h.1)

-- dictionary order is transitive
pub later_trans : (A B C : List ℕ) → Later A B → Later B C → Later A C
later_trans [] [] C h k = absurd h
later_trans [] (b ∷ B) [] h k = k
later_trans [] (b ∷ B) (c ∷ C) h k = tt
later_trans (a ∷ A) [] C h k = absurd h
later_trans (a ∷ A) (b ∷ B) [] h k = k
later_trans (a ∷ A) (b ∷ B) (c ∷ C) (inl h) (inl k) = inl (omega (arith, h, k))
later_trans (a ∷ A) (b ∷ B) (c ∷ C) (inl h) (inr k) = inl (omega (arith, h, k.0))
later_trans (a ∷ A) (b ∷ B) (c ∷ C) (inr h) (inl k) = inl (omega (arith, h.0, k))
later_trans (a ∷ A) (b ∷ B) (c ∷ C) (inr h) (inr k) = inr (omega (arith, h.0, k.0), later_trans A B C h.1 k.1)

pub later_irrefl : (A : List ℕ) → Later A A → ⊥
later_irrefl [] h = h
later_irrefl (a ∷ A) (inl h) = omega (arith, h)
later_irrefl (a ∷ A) (inr h) = later_irrefl A h.1

module _ (rs : List Rule) (A : List ℕ) where
  -- where goals and due stand at rules taken so far, what comes is after A
  abbrev Ahead : List Term → List ℕ → ℕ → Type 0
  Ahead [] bs due = Later A bs
  Ahead (g ∷ rest) bs due = Beyond A bs due

  abbrev Past : Place → Type 0
  Past p = Ahead p.goals (rules_taken p.branch) p.due

  fresh_ahead : (goals : List Term) (bs : List ℕ) → Beyond A bs 0 → Ahead goals bs 0
  fresh_ahead [] bs h = beyond_later A bs h
  fresh_ahead (g ∷ rest) bs h = h

  landed_past : (p : Place) (r : Rule) (g : Term) (rest : List Term) (u : Option Substitution) → Beyond A (rules_taken p.branch) p.due → Past (landed p r g rest u)
  landed_past p r g rest none h = beyond_next A (rules_taken p.branch) p.due h
  landed_past p r g rest (some σ) h =
      fresh_ahead (landed p r g rest (some σ)).goals (rules_taken p.branch ++ (p.due ∷ [])) (beyond_taken A (rules_taken p.branch) p.due h)

  lines_past : (a : ℕ) (p : Place) → Past p → Past (lines rs a p).place
  lines_past =
      lines_keep rs Past
      (λ g rest due cells f fs l h. beyond_back A (rules_taken fs) f.rule due h)
      (λ g rest due cells fs l e h. landed_past (at (g ∷ rest) due cells fs) (rule rs due) g rest (unify (shifted (length cells) (rule rs due).head) g) h)

  -- with the newest answer's numbers A: the search is past them, or still stands at them, or will give no more
  abbrev GoesPast : Condition → Place → Type 0
  GoesPast running p = Past p
  GoesPast standing p = rules_taken p.branch ≡ A
  GoesPast ended p = Unit {0}
  GoesPast (stopped why) p = Unit {0}

module _ (rs : List Rule) where
  abbrev PastNewest : List Place → Condition → Place → Type 0
  PastNewest [] c p = Unit {0}
  PastNewest (p' ∷ ps) c p = GoesPast rs (rules_taken p'.branch) c p

  record InOrderSoFar (z : Session) : Type 0 where
    ordered : Ordered z.given
    past : PastNewest z.given z.search.condition z.search.place

  -- a call that ends at p with the word w, from a place past the newest answer
  first_given : (w : Word) (p : Place) → Ordered (given_by w p []) × PastNewest (given_by w p []) (condition_after w) p
  first_given Answer p = ((tt, tt), refl)
  first_given Spent p = (tt, tt)
  first_given (Stopped why) p = (tt, tt)
  first_given NoMore p = (tt, tt)

  next_given : (p' : Place) (ps : List Place) → Ordered (p' ∷ ps) → (w : Word) (left : ℕ) (p : Place) → Final rs w left p → Past rs (rules_taken p'.branch) p
      → Ordered (given_by w p (p' ∷ ps)) × PastNewest (given_by w p (p' ∷ ps)) (condition_after w) p
  next_given p' ps o Answer left p f h = ((subst (λ (gs : List Term). Ahead rs (rules_taken p'.branch) gs (rules_taken p.branch) p.due) f h, o), refl)
  next_given p' ps o Spent left p f h = (o, h)
  next_given p' ps o (Stopped why) left p f h = (o, tt)
  next_given p' ps o NoMore left p f h = (o, tt)

  lines_order : (a : ℕ) (s : Search) (ps : List Place) (p : Place) → Ordered ps → PastNewest ps running p → InOrderSoFar (called (settled a s (lines rs a p)) ps)
  lines_order a s [] p o h =
      let k = first_given (lines rs a p).word (lines rs a p).place in record { ordered = k.0; past = k.1 }
  lines_order a s (p' ∷ ps) p o h =
      let k = next_given p' ps o (lines rs a p).word (lines rs a p).left (lines rs a p).place (lines_final rs a p) (lines_past rs (rules_taken p'.branch) a p h) in
      record { ordered = k.0; past = k.1 }

  -- going back from a standing answer leads past it
  left_past : (ps : List Place) (f : Step) (fs : List Step) (p : Place) → p.branch ≡ f ∷ fs → PastNewest ps standing p → PastNewest ps running (before f fs)
  left_past [] f fs p e h = tt
  left_past (p' ∷ ps) f fs p e h =
      subst (λ (A : List ℕ). Beyond A (rules_taken fs) (suc f.rule)) h
      (subst (λ (l : List Step). Beyond (rules_taken l) (rules_taken fs) (suc f.rule)) (sym e) (beyond_left (rules_taken fs) f.rule))

  leaving_order : (a : ℕ) (s : Search) (ps : List Place) (p : Place) (fs : List Step) → p.branch ≡ fs → Ordered ps → PastNewest ps standing p
      → InOrderSoFar (called (settled a s (onward (lines rs) a p (back a fs))) ps)
  leaving_order a s [] p [] e o h = record { ordered = o; past = tt }
  leaving_order a s (p' ∷ ps) p [] e o h = record { ordered = o; past = tt }
  leaving_order a s ps p (f ∷ fs) e o h = lines_order a s ps (before f fs) o (left_past ps f fs p e h)

  continued_order : (a : ℕ) (s : Search) (ps : List Place) → Ordered ps → (c : Condition) → s.condition ≡ c → PastNewest ps c s.place → InOrderSoFar (called (continued rs a s c) ps)
  continued_order a s ps o running e h = lines_order a s ps s.place o h
  continued_order a s ps o standing e h = leaving_order a s ps s.place s.place.branch refl o h
  continued_order a s ps o ended e h = record { ordered = o; past = subst (λ (c : Condition). PastNewest ps c s.place) (sym e) h }
  continued_order a s ps o (stopped why) e h = record { ordered = o; past = subst (λ (c : Condition). PastNewest ps c s.place) (sym e) h }

pub in_order : InOrder
in_order rs q calls =
    (sessions_keep rs q (InOrderSoFar rs) (record { ordered = tt; past = tt })
    (λ a z k. next_by rs (InOrderSoFar rs) a z k (continued_order rs a z.search z.given k.ordered z.search.condition refl k.past)) calls).ordered
