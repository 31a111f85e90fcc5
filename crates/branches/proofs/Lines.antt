-- The lines of the search by what is due. Assumes nothing.
use Rattle.std.proofs.Common.{◌≡◌, ℕ, zero, suc, Bool, true, false, cond, ltb, List, [], ◌∷◌, length, sym, refl, ap, ◌∙◌}
use mathlib.Core.Option.{Option, none, some}
use Rattle.terms.specs.Terms.{Term, Rule}
use Rattle.resolution.specs.declared.Stop.{Stop as Why}
use Rattle.resolution.specs.declared.Word.TheVariants.{Spent}
use Rattle.resolution.specs.Lines.{Place, ends, goes_on, back, stop, unless_stopped, due_line, line_for}
use Rattle.branches.specs.declared.Due.{Due}
use Rattle.branches.specs.declared.Due.TheVariants.{NoRule, Rule as ARule}
use Rattle.branches.specs.Moves.{due_unless, due_for, due_at, attempted_if, turn, LinesByDue}

module _ (rs : List Rule) (p : Place) where
  due_spent : (o : Option Why) → ends Spent ≡ turn rs zero p (due_unless o)
  due_spent (some why) = refl
  due_spent none = refl

  due_stopped : (l : ℕ) (g : Term) (rest : List Term) → p.goals ≡ g ∷ rest → (o : Option Why) → due_at rs p ≡ due_unless o
      → unless_stopped rs l p g rest o ≡ turn rs (suc l) p (due_unless o)
  due_stopped l g rest e (some why) d = refl
  due_stopped l g rest e none d = ap (goes_on l) (sym (ap (λ (x : Due). attempted_if rs p x p.goals) d ∙ ap (attempted_if rs p ARule) e))

  due_tried : (left : ℕ) (g : Term) (rest : List Term) → p.goals ≡ g ∷ rest → due_at rs p ≡ due_unless (stop rs p)
      → due_line rs left p g rest ≡ turn rs left p (due_unless (stop rs p))
  due_tried zero g rest e d = due_spent (stop rs p)
  due_tried (suc l) g rest e d = due_stopped l g rest e (stop rs p) d

  by_rules : (left : ℕ) (g : Term) (rest : List Term) → p.goals ≡ g ∷ rest → (b : Bool) → ltb p.due (length rs) ≡ b
      → cond b (due_line rs left p g rest) (back left p.branch) ≡ turn rs left p (cond b (due_unless (stop rs p)) NoRule)
  by_rules left g rest e false l = refl
  by_rules left g rest e true l =
      due_tried left g rest e (ap (due_for rs p) e ∙ ap (λ (b : Bool). cond b (due_unless (stop rs p)) NoRule) l)

  by_goals : (left : ℕ) (gs : List Term) → p.goals ≡ gs → line_for rs left p gs ≡ turn rs left p (due_for rs p gs)
  by_goals left [] e = refl
  by_goals left (g ∷ rest) e = by_rules left g rest e (ltb p.due (length rs)) refl

pub lines_by_due : LinesByDue
lines_by_due rs left p = by_goals rs p left p.goals refl
