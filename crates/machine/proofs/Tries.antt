-- A try comes out as the definition of unification says. Assumes nothing.
use Rattle.std.proofs.Common.{◌≡◌, ℕ, ◌+◌, Bool, true, false, List, length, sym, refl, ap, ◌∙◌, subst, le_refl, arith, true≢false}
use mathlib.Core.Option.{Option, none, some}
use Rattle.terms.specs.Terms.{Term}
use Rattle.unification.specs.Substitutions.{Substitution}
use Rattle.unification.specs.Unification.{unify}
use Rattle.bindings.specs.Cells.{Cell}
use Rattle.bindings.specs.declared.TermAt.{TermAt}
use Rattle.bindings.specs.Texts.{tree, Stands}
use Rattle.bindings.specs.Trails.{Since, Sound, trail, TermIn, meaning_at}
use Rattle.bindings.specs.Endings.{Ends}
use Rattle.bindings.proofs.Texts.{stands_more, declares_stands}
use Rattle.bindings.proofs.Links.{sound_more}
use Rattle.bindings.proofs.Presents.{meaning_fresh, presents_stepped}
use Rattle.machine.specs.declared.cells.Cells.{Cells}
use Rattle.machine.specs.declared.attempt.Head.{Head}
use Rattle.machine.specs.Tries.{found, goal_term, Ready, Outcome, Tried}

module _ {text : List ℕ} {c : Cells} {r : Head} {g : TermAt} (ready : Ready text c r g) where
  -- The head over fresh cells means itself.
  head_found : unify (meaning_at text c.table c.newest (record { place = r.place; level = c.used })) (goal_term text c g) ≡ found text c r g
  head_found = ap (λ (t : Term). unify t (goal_term text c g)) (meaning_fresh ready.ordered c.used (tree text r.place) (le_refl c.used))

  -- unification of head and goal over the cells with n fresh ones, which leaves these cells and says q
  abbrev Joins : ℕ → List Cell → ℕ → Bool → Type 0
  Joins n cells k q =
      Ends text (c.used + n) c.table c.newest cells k
      (unify (meaning_at text c.table c.newest (record { place = r.place; level = c.used })) (goal_term text c g)) q

  module _ {cells : List Cell} {k : ℕ} {q : Bool} where
    no_outcome : (o : Option Substitution) → Ends text (c.used + r.variables) c.table c.newest cells k o q → q ≡ false
        → (c' : Cells) → c' ≡ c → Outcome text c r.variables c' o false
    no_outcome none e y c' s = (refl, s)
    no_outcome (some σ) e y c' s = absurd (true≢false (sym e.says.0 ∙ y))

    yes_outcome : (o : Option Substitution) → Ends text (c.used + r.variables) c.table c.newest cells k o q → q ≡ true
        → ((was : List Cell) (m : ℕ) → Since was m c.table c.newest → Since was m cells k)
        → Outcome text c r.variables (record { table = cells; used = c.used + r.variables; newest = k }) o true
    yes_outcome none e y s = absurd (true≢false (sym y ∙ e.says))
    yes_outcome (some σ) e y s = (
      refl,
      record {
        used = refl;
        applied = e.says.1;
        terms = presents_stepped ready.ordered σ r.variables (trail text cells k) e.says.1.means;
        since = s;
      },
    )

    tried_no : Joins r.variables cells k q → q ≡ false → (c' : Cells) → c' ≡ c → Tried text c r g c' false
    tried_no e y c' s = record { outcome = subst (λ (o : Option Substitution). Outcome text c r.variables c' o false) head_found (no_outcome _ e y c' s) }

    tried_yes : Joins r.variables cells k q → q ≡ true → ((was : List Cell) (m : ℕ) → Since was m c.table c.newest → Since was m cells k)
        → Tried text c r g (record { table = cells; used = c.used + r.variables; newest = k }) true
    tried_yes e y s =
        record {
          outcome =
              subst (λ (o : Option Substitution). Outcome text c r.variables (record { table = cells; used = c.used + r.variables; newest = k }) o true)
              head_found (yes_outcome _ e y s);
        }

  module _ {n : ℕ} (fresh : n ≡ r.variables) where
    -- The cells with the fresh ones in use are in order, and head and goal stand over them.
    pub ready_sound : length c.table ≡ 2048 → Sound text (c.used + n) c.table c.newest
    ready_sound many = sound_more (omega arith) (omega (arith, ready.room, fresh, many)) ready.ordered

    pub ready_head : Stands text (c.used + n) r.place c.used
    ready_head = declares_stands c.used (c.used + n) (omega (arith, fresh)) ready.head

    pub ready_goal : TermIn text (c.used + n) g
    ready_goal = stands_more (omega arith) ready.goal

    module _ {cells : List Cell} {k : ℕ} {q : Bool} (e : Joins n cells k q) where
      joins : Joins r.variables cells k q
      joins = subst (λ (m : ℕ). Joins m cells k q) fresh e

      -- No leaves the cells as they were, yes leaves those of unification.
      pub tried_left : q ≡ false → (c' : Cells) → c' ≡ c → Tried text c r g c' false
      tried_left = tried_no joins

      pub tried_taken : q ≡ true → ((was : List Cell) (m : ℕ) → Since was m c.table c.newest → Since was m cells k)
          → Tried text c r g (record { table = cells; used = c.used + n; newest = k }) true
      tried_taken y s = subst (λ (m : ℕ). Tried text c r g (record { table = cells; used = c.used + m; newest = k }) true) (sym fresh) (tried_yes joins y s)
