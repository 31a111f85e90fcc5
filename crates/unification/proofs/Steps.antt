-- Unification by the forms of the two terms, one equation each. Assumes nothing.
use mathlib.Core.Path.{◌≡◌, ◌∙◌, ap}
use mathlib.Core.Bool.{Bool, false, cond}
use mathlib.Core.List.{[]}
use mathlib.Core.Option.{Option, none, some}
use Prim.Native.Nat.{ℕ}
use lib.Dec.{eqb, eqb_refl}
use Rattle.terms.specs.Terms.{Term, var, atom, pair}
use Rattle.unification.specs.Variables.{is_variable}
use Rattle.unification.specs.Substitutions.{Substitution}
use Rattle.unification.specs.Unification.{bind, meet, followed, rests, unify}
use Rattle.unification.proofs.Choice.{T→true}
use Rattle.unification.proofs.Recursion.{recursive}

-- a variable against itself
pub unify_same : (x : ℕ) → unify (var x) (var x) ≡ some []
unify_same x = recursive (var x) (var x) ∙ ap (λ (b : Bool). cond b (some []) (bind x (var x))) (T→true (eqb x x) (eqb_refl x))

-- a variable against any term
pub unify_variable : (x : ℕ) (t : Term) → unify (var x) t ≡ meet x t
unify_variable x t = recursive (var x) t

-- a variable against another term
pub unify_left : (x : ℕ) (t : Term) → is_variable x t ≡ false → unify (var x) t ≡ bind x t
unify_left x t e = recursive (var x) t ∙ ap (λ (b : Bool). cond b (some []) (bind x t)) e

-- an atom or a pair against a variable
pub unify_atom_right : (a y : ℕ) → unify (atom a) (var y) ≡ bind y (atom a)
unify_atom_right a y = recursive (atom a) (var y)

pub unify_pair_right : (s t : Term) (y : ℕ) → unify (pair s t) (var y) ≡ bind y (pair s t)
unify_pair_right s t y = recursive (pair s t) (var y)

pub unify_atoms : (a b : ℕ) → unify (atom a) (atom b) ≡ cond (eqb a b) (some []) none
unify_atoms a b = recursive (atom a) (atom b)

pub unify_atom_pair : (a : ℕ) (s t : Term) → unify (atom a) (pair s t) ≡ none
unify_atom_pair a s t = recursive (atom a) (pair s t)

pub unify_pair_atom : (s t : Term) (a : ℕ) → unify (pair s t) (atom a) ≡ none
unify_pair_atom s t a = recursive (pair s t) (atom a)

pub unify_pairs : (a b c d : Term) → unify (pair a b) (pair c d) ≡ rests unify (unify a c) b d
unify_pairs a b c d = recursive (pair a b) (pair c d)

-- a term against itself
pub unify_itself : (t : Term) → unify t t ≡ some []
unify_itself (var x) = unify_same x
unify_itself (atom a) = unify_atoms a a ∙ ap (λ (b : Bool). cond b (some []) none) (T→true (eqb a a) (eqb_refl a))
unify_itself (pair s t) = unify_pairs s t s t ∙ ap (λ (r : Option Substitution). rests unify r t t) (unify_itself s) ∙ ap (followed []) (unify_itself t)
