-- Stacks of goals, as they change. Assumes nothing.
use Rattle.std.proofs.Common.{◌≡◌, List, [], ◌∷◌, ◌++◌, sym, refl, ap, ◌∙◌, append_assoc, append-nil}
use Rattle.terms.specs.Terms.{Term}
use Rattle.comparing.specs.Stacks.{Stacked}

module _ {X : Type 0} (Has : X → List Term → Type 0) where
  -- a stack stays if each of its items does
  pub stays : (Has2 : X → List Term → Type 0) → ((x : X) (own : List Term) → Has x own → Has2 x own) → (xs : List X) (goals : List Term) → Stacked Has xs goals → Stacked Has2 xs goals
  stays Has2 f [] goals s = s
  stays Has2 f (x ∷ xs) goals s = (s.0, s.1, f x s.0 s.2, stays Has2 f xs s.1 s.3, s.4)

  -- an item is put on
  pub put_on : (xs : List X) (x : X) (own below : List Term) → Has x own → Stacked Has xs below → Stacked Has (xs ++ x ∷ []) (own ++ below)
  put_on [] x own below h s = (own, [], h, refl, ap (λ b. own ++ b) s ∙ append-nil own)
  put_on (y ∷ ys) x own below h s = (s.0, own ++ s.1, s.2, put_on ys x own s.1 h s.3, ap (λ b. own ++ b) s.4 ∙ sym (append_assoc own s.1 s.0))

  -- the top one is taken off
  pub taken_off : (xs : List X) (x : X) (goals : List Term) → Stacked Has (xs ++ x ∷ []) goals → (own : List Term) × (below : List Term) × Has x own × Stacked Has xs below × (goals ≡ own ++ below)
  taken_off [] x goals s = (s.0, [], s.2, refl, s.4 ∙ ap (λ a. a ++ s.0) s.3 ∙ sym (append-nil s.0))
  taken_off (y ∷ ys) x goals s =
      let k = taken_off ys x s.1 s.3 in
      (k.0, k.1 ++ s.0, k.2, (s.0, k.1, s.2, k.3, refl), s.4 ∙ ap (λ a. a ++ s.0) k.4 ∙ append_assoc k.0 k.1 s.0)
