-- One line after the other: the bound never counts, and what each line keeps the call keeps. Assumes nothing.
use Rattle.std.proofs.Common.{◌≡◌, ℕ, zero, suc, ◌+◌, ◌*◌, ◌<◌, ◌≤◌, ltb, List, [], ◌∷◌, length, refl, subst, arith, ltb→lt, nltb→le}
use mathlib.Core.Option.{Option, none, some}
use Rattle.terms.specs.Terms.{Term, Rule}
use Rattle.unification.specs.Substitutions.{Substitution}
use Rattle.unification.specs.Variables.{shifted}
use Rattle.unification.specs.Unification.{unify}
use Rattle.unification.proofs.Choice.{cond_by}
use Rattle.resolution.specs.declared.Stop.{Stop}
use Rattle.resolution.specs.declared.Word.{Word}
use Rattle.resolution.specs.declared.Word.TheVariants.{Answer, Spent, Stopped, NoMore}
use Rattle.resolution.specs.Rules.{rule}
use Rattle.resolution.specs.Lines.{Step, Place, Turn, ends, goes_on, before, back, stop, landed, tried, unless_stopped, due_line, line_for, line, End, onward, lines_within, enough, lines}
use Rattle.resolution.specs.Laws.{OneByOne}

-- a place by its parts
abbrev pub at : List Term → ℕ → List Term → List Step → Place
at goals due cells branch = record { goals = goals; due = due; cells = cells; branch = branch }

-- fewer than n lines can come after the turn
abbrev Falls : ℕ → Turn → Type 0
Falls n (ends w) = Unit {0}
Falls n (goes_on l p) = 2 * l + length p.branch < n

module _ (rs : List Rule) where
  back_falls : (left : ℕ) (fs : List Step) → Falls (2 * left + length fs) (back left fs)
  back_falls left [] = tt
  back_falls left (f ∷ fs) = omega arith

  landed_falls : (left : ℕ) (p : Place) (r : Rule) (g : Term) (rest : List Term) (u : Option Substitution)
      → 2 * left + length (landed p r g rest u).branch < 2 * suc left + length p.branch
  landed_falls left p r g rest none = omega arith
  landed_falls left p r g rest (some σ) = omega arith

  unless_falls : (left : ℕ) (p : Place) (g : Term) (rest : List Term) (o : Option Stop) → Falls (2 * suc left + length p.branch) (unless_stopped rs left p g rest o)
  unless_falls left p g rest (some why) = tt
  unless_falls left p g rest none = landed_falls left p (rule rs p.due) g rest (unify (shifted (length p.cells) (rule rs p.due).head) g)

  due_falls : (left : ℕ) (p : Place) (g : Term) (rest : List Term) → Falls (2 * left + length p.branch) (due_line rs left p g rest)
  due_falls zero p g rest = tt
  due_falls (suc left) p g rest = unless_falls left p g rest (stop rs p)

  line_for_falls : (left : ℕ) (p : Place) (goals : List Term) → Falls (2 * left + length p.branch) (line_for rs left p goals)
  line_for_falls left p [] = tt
  line_for_falls left p (g ∷ rest) =
      cond_by (Falls (2 * left + length p.branch)) (ltb p.due (length rs)) (λ _. due_falls left p g rest) (λ _. back_falls left p.branch)

  line_falls : (left : ℕ) (p : Place) → Falls (2 * left + length p.branch) (line rs left p)
  line_falls left p = line_for_falls left p p.goals

  -- two ways of going on that agree on fewer lines
  onward_same : (f g : ℕ → Place → End) (n left : ℕ) (p : Place) → ((l : ℕ) (p' : Place) → 2 * l + length p'.branch < n → f l p' ≡ g l p')
      → (t : Turn) → Falls n t → onward f left p t ≡ onward g left p t
  onward_same f g n left p e (ends w) h = refl
  onward_same f g n left p e (goes_on l p') h = e l p' h

  -- any two bounds that suffice
  within_same : (n m left : ℕ) (p : Place) → 2 * left + length p.branch < n → 2 * left + length p.branch < m → lines_within rs n left p ≡ lines_within rs m left p
  within_same zero m left p h k = absurd (omega (arith, h))
  within_same (suc n) zero left p h k = absurd (omega (arith, k))
  within_same (suc n) (suc m) left p h k =
      onward_same (lines_within rs n) (lines_within rs m) (2 * left + length p.branch) left p
      (λ l p' f. within_same n m l p' (omega (arith, f, h)) (omega (arith, f, k))) (line rs left p) (line_falls left p)

pub one_by_one : OneByOne
unfolding lines
one_by_one rs left p =
    onward_same rs (lines_within rs (2 * left + length p.branch)) (λ l p'. lines_within rs (enough l p') l p') (2 * left + length p.branch) left p
    (λ l p' h. within_same rs (2 * left + length p.branch) (enough l p') l p' h (omega arith)) (line rs left p) (line_falls rs left p)

-- induction over the lines of a call
module _ (rs : List Rule) (P : ℕ → Place → End → Type 0)
    (at_end : (left : ℕ) (p : Place) (w : Word) → line rs left p ≡ ends w → P left p (record { word = w; left = left; place = p }))
    (by_line : (left : ℕ) (p : Place) (l : ℕ) (p' : Place) (e : End) → line rs left p ≡ goes_on l p' → P l p' e → P left p e) where
  turn_by : (go : ℕ → Place → End) (n left : ℕ) (p : Place) → ((l : ℕ) (p' : Place) → 2 * l + length p'.branch < n → P l p' (go l p'))
      → (t : Turn) → line rs left p ≡ t → Falls n t → P left p (onward go left p t)
  turn_by go n left p ih (ends w) e h = at_end left p w e
  turn_by go n left p ih (goes_on l p') e h = by_line left p l p' (go l p') e (ih l p' h)

  within_by : (n left : ℕ) (p : Place) → 2 * left + length p.branch < n → P left p (lines_within rs n left p)
  within_by zero left p h = absurd (omega (arith, h))
  within_by (suc n) left p h =
      turn_by (lines_within rs n) (2 * left + length p.branch) left p (λ l p' f. within_by n l p' (omega (arith, f, h)))
      (line rs left p) refl (line_falls rs left p)

  pub lines_by : (left : ℕ) (p : Place) → P left p (lines rs left p)
  unfolding lines
  lines_by left p = within_by (enough left p) left p (omega arith)

-- what going back and a try keep, the lines of a call keep
module _ (rs : List Rule) (J : Place → Type 0)
    (on_back : (g : Term) (rest : List Term) (due : ℕ) (cells : List Term) (f : Step) (fs : List Step) → length rs ≤ due → J (at (g ∷ rest) due cells (f ∷ fs)) → J (before f fs))
    (on_try : (g : Term) (rest : List Term) (due : ℕ) (cells : List Term) (fs : List Step) → due < length rs → stop rs (at (g ∷ rest) due cells fs) ≡ none
    → J (at (g ∷ rest) due cells fs) → J (tried rs (at (g ∷ rest) due cells fs) g rest)) where
  abbrev Goes : Turn → Type 0
  Goes (ends w) = Unit {0}
  Goes (goes_on l p) = J p

  back_goes : (left : ℕ) (g : Term) (rest : List Term) (due : ℕ) (cells : List Term) (fs : List Step) → length rs ≤ due → J (at (g ∷ rest) due cells fs) → Goes (back left fs)
  back_goes left g rest due cells [] h j = tt
  back_goes left g rest due cells (f ∷ fs) h j = on_back g rest due cells f fs h j

  unless_goes : (left : ℕ) (g : Term) (rest : List Term) (due : ℕ) (cells : List Term) (fs : List Step) → due < length rs → J (at (g ∷ rest) due cells fs)
      → (o : Option Stop) → stop rs (at (g ∷ rest) due cells fs) ≡ o → Goes (unless_stopped rs left (at (g ∷ rest) due cells fs) g rest o)
  unless_goes left g rest due cells fs h j (some why) e = tt
  unless_goes left g rest due cells fs h j none e = on_try g rest due cells fs h e j

  due_goes : (left : ℕ) (g : Term) (rest : List Term) (due : ℕ) (cells : List Term) (fs : List Step) → due < length rs → J (at (g ∷ rest) due cells fs)
      → Goes (due_line rs left (at (g ∷ rest) due cells fs) g rest)
  due_goes zero g rest due cells fs h j = tt
  due_goes (suc left) g rest due cells fs h j = unless_goes left g rest due cells fs h j (stop rs (at (g ∷ rest) due cells fs)) refl

  line_goes : (left : ℕ) (goals : List Term) (due : ℕ) (cells : List Term) (fs : List Step) → J (at goals due cells fs) → Goes (line rs left (at goals due cells fs))
  line_goes left [] due cells fs j = tt
  line_goes left (g ∷ rest) due cells fs j =
      cond_by Goes (ltb due (length rs)) (λ h. due_goes left g rest due cells fs (ltb→lt due (length rs) h) j) (λ h. back_goes left g rest due cells fs (nltb→le due (length rs) h) j)

  pub lines_keep : (left : ℕ) (p : Place) → J p → J (lines rs left p).place
  lines_keep left p =
      lines_by rs (λ l p e. J p → J e.place) (λ l p w e j. j)
      (λ l p l' p' e eq ih j. ih (subst Goes eq (line_goes l p.goals p.due p.cells p.branch j))) left p

-- ── where a call ends ──

-- no rule is left for the first goal, and there is no step to take off
abbrev pub Dry : ℕ → List Term → ℕ → List Step → Type 0
Dry count [] due fs = ⊥
Dry count (g ∷ rest) due [] = count ≤ due
Dry count (g ∷ rest) due (f ∷ fs) = ⊥

-- the place and the tries left at which a word is said
abbrev pub Final : List Rule → Word → ℕ → Place → Type 0
Final rs Answer left p = p.goals ≡ []
Final rs Spent left p = left ≡ 0
Final rs (Stopped why) left p = 0 < left
Final rs NoMore left p = Dry (length rs) p.goals p.due p.branch

module _ (rs : List Rule) where
  abbrev Ends : ℕ → Place → Turn → Type 0
  Ends left p (ends w) = Final rs w left p
  Ends left p (goes_on l p') = l ≤ left

  back_ends : (left : ℕ) (g : Term) (rest : List Term) (due : ℕ) (cells : List Term) (fs : List Step) → length rs ≤ due → Ends left (at (g ∷ rest) due cells fs) (back left fs)
  back_ends left g rest due cells [] h = h
  back_ends left g rest due cells (f ∷ fs) h = omega arith

  unless_ends : (left : ℕ) (p : Place) (g : Term) (rest : List Term) (o : Option Stop) → Ends (suc left) p (unless_stopped rs left p g rest o)
  unless_ends left p g rest (some why) = omega arith
  unless_ends left p g rest none = omega arith

  due_ends : (left : ℕ) (p : Place) (g : Term) (rest : List Term) → Ends left p (due_line rs left p g rest)
  due_ends zero p g rest = refl
  due_ends (suc left) p g rest = unless_ends left p g rest (stop rs p)

  line_ends : (left : ℕ) (goals : List Term) (due : ℕ) (cells : List Term) (fs : List Step) → Ends left (at goals due cells fs) (line rs left (at goals due cells fs))
  line_ends left [] due cells fs = refl
  line_ends left (g ∷ rest) due cells fs =
      cond_by (Ends left (at (g ∷ rest) due cells fs)) (ltb due (length rs)) (λ h. due_ends left (at (g ∷ rest) due cells fs) g rest) (λ h. back_ends left g rest due cells fs (nltb→le due (length rs) h))

  pub lines_final : (left : ℕ) (p : Place) → Final rs (lines rs left p).word (lines rs left p).left (lines rs left p).place
  lines_final left p =
      lines_by rs (λ l p e. Final rs e.word e.left e.place)
      (λ l p w e. subst (Ends l p) e (line_ends l p.goals p.due p.cells p.branch))
      (λ l p l' p' e eq ih. ih) left p

  pub lines_left : (left : ℕ) (p : Place) → (lines rs left p).left ≤ left
  lines_left left p =
      lines_by rs (λ l p e. e.left ≤ l) (λ l p w e. omega arith)
      (λ l p l' p' e eq ih.
      let h : l' ≤ l = subst (Ends l p) eq (line_ends l p.goals p.due p.cells p.branch) in
      omega (arith, h, ih)) left p
