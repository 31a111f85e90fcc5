-- Worked examples of unification, by computation. Assumes nothing.
use Rattle.std.specs.Prelude.{[], ◌∷◌, ◌≡◌}
use Rattle.std.proofs.Math.Option.{none, some}
use Rattle.terms.specs.Terms.{var, atom, pair}
use Rattle.unification.specs.Unification.{unify}

pub record Worked : Type 0 where
  pub left_is_bound : unify (var 0) (var 1) ≡ some ((0, var 1) ∷ [])
  pub right_is_bound : unify (pair (atom 1) (atom 2)) (pair (var 0) (var 1)) ≡ some ((0, atom 1) ∷ (1, atom 2) ∷ [])
  pub itself : unify (var 0) (var 0) ≡ some []
  pub same_atom : unify (atom 1) (atom 1) ≡ some []
  pub other_atom : unify (atom 1) (atom 2) ≡ none
  pub atom_and_pair : unify (atom 0) (pair (atom 0) (atom 0)) ≡ none
  pub occurs_in_it : unify (var 0) (pair (atom 1) (var 0)) ≡ none
  pub occurs_in_it_later : unify (pair (var 0) (var 1)) (pair (var 1) (pair (atom 1) (var 0))) ≡ none
  pub one_term_for_both : unify (pair (var 0) (var 0)) (pair (atom 1) (atom 2)) ≡ none
  pub rests_in_turn : unify (pair (var 0) (pair (var 1) (var 0))) (pair (var 1) (pair (atom 3) (atom 3))) ≡ some ((0, var 1) ∷ (1, atom 3) ∷ [])
