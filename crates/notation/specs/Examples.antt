-- Worked examples of the notation, by computation. Assumes nothing.
use Rattle.std.specs.Prelude.{[], ◌∷◌, ◌≡◌, codes}
use Rattle.terms.specs.Terms.{var, atom, pair}
use Rattle.notation.specs.Notation.{shown, listed, shown_rule}
use Rattle.notation.specs.Commands.{first_text, all_text}

pub record Worked : Type 0 where
  pub number : shown (atom 65535) ≡ codes "65535"
  pub zero : shown (atom 0) ≡ codes "0"
  pub variable : shown (var 3) ≡ codes "?3"
  pub list_of_one : shown (pair (atom 7) (atom 0)) ≡ codes "(7)"
  pub list_of_two : shown (pair (atom 1) (pair (var 2) (atom 0))) ≡ codes "(1 ?2)"
  pub last_rest : shown (pair (atom 1) (pair (atom 2) (var 3))) ≡ codes "(1 2 . ?3)"
  pub last_number : shown (pair (atom 1) (atom 10)) ≡ codes "(1 . 10)"
  pub list_in_list : shown (pair (pair (atom 1) (atom 0)) (pair (pair (atom 0) (atom 2)) (atom 0))) ≡ codes "((1) (0 . 2))"
  pub terms : listed (atom 1 ∷ pair (atom 2) (atom 0) ∷ var 0 ∷ []) ≡ codes "1, (2), ?0"
  pub no_terms : listed [] ≡ []
  pub fact : shown_rule (record { variables = 0; head = pair (atom 1) (atom 0); goals = [] }) ≡ codes "(1)"
  pub clause : shown_rule (record { variables = 1; head = pair (atom 1) (var 0); goals = var 0 ∷ atom 2 ∷ [] }) ≡ codes "(1 . ?0) if ?0, 2"
  pub first_of_two : first_text (1 ∷ 0 ∷ 5 ∷ 2 ∷ 9 ∷ []) ≡ codes "5"
  pub both : all_text (1 ∷ 0 ∷ 5 ∷ 2 ∷ 9 ∷ []) ≡ codes "5, ?9"
  pub rest_missing : all_text (2 ∷ 0 ∷ 3 ∷ 1 ∷ 0 ∷ 5 ∷ []) ≡ codes "?0, (5"
