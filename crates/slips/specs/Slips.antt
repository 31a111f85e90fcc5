-- The answer and the slip of a standing place, as terms and in bytes. Assumes nothing.
use Rattle.std.specs.Prelude.{ℕ, suc, Bool, true, false, cond, List, [], ◌∷◌, ◌++◌, map, length, take, drop, ◌==◌}
use Rattle.terms.specs.declared.Form.TheVariants.{Slips}
use Rattle.terms.specs.Terms.{Term, var, atom, pair, Rule, Query}
use Rattle.terms.specs.Bytes.{two, encodings}
use Rattle.resolution.specs.Rules.{rule}
use Rattle.resolution.specs.Lines.{Step, Place}

-- the first byte of an answer and of a slip, of a step, and the last byte of a slip
abbrev pub answer_byte : ℕ
answer_byte = 0x20

abbrev pub step_byte : ℕ
step_byte = 0x21

abbrev pub end_byte : ℕ
end_byte = 0x2F

-- ── unknowns ──

-- x is in the list
abbrev pub among : ℕ → List ℕ → Bool
among x [] = false
among x (y ∷ ys) = cond (x == y) true (among x ys)

-- the place of x in the list
abbrev pub position : ℕ → List ℕ → ℕ
position x [] = 0
position x (y ∷ ys) = cond (x == y) 0 (suc (position x ys))

-- the variables of terms by first appearance, after those that appeared before
abbrev pub appeared : List ℕ → Term → List ℕ
appeared xs (var x) = cond (among x xs) xs (xs ++ (x ∷ []))
appeared xs (atom a) = xs
appeared xs (pair s t) = appeared (appeared xs s) t

abbrev pub all_appeared : List ℕ → List Term → List ℕ
all_appeared xs [] = xs
all_appeared xs (t ∷ ts) = all_appeared (appeared xs t) ts

-- a term with the place of each variable in the list as its number
abbrev pub renumbered : List ℕ → Term → Term
renumbered xs (var x) = var (position x xs)
renumbered xs (atom a) = atom a
renumbered xs (pair s t) = pair (renumbered xs s) (renumbered xs t)

-- terms whose variables are numbered from 0 by first appearance in all of them
abbrev pub numbered : List Term → List Term
numbered ts = map (renumbered (all_appeared [] ts)) ts

-- ── slips ──

-- a step of a slip: the number of its rule, and a term for each of the rule's variables
pub record SlipStep : Type 0 where
  pub rule : ℕ
  pub terms : List Term

-- a term for each of the query's variables, and the steps, oldest first
pub record Slip : Type 0 where
  pub terms : List Term
  pub steps : List SlipStep

-- the steps of a branch, with the terms that its cells have
abbrev pub steps_of : List Rule → List Term → List Step → List SlipStep
steps_of rs cells [] = []
steps_of rs cells (f ∷ fs) =
    steps_of rs cells fs ++ (record { rule = f.rule; terms = take (rule rs f.rule).variables (drop (length f.cells) cells) } ∷ [])

-- the slip of a place: the query's variables have the first cells
abbrev pub slip_of : List Rule → Query → Place → Slip
slip_of rs q p = record { terms = take q.variables (numbered p.cells); steps = steps_of rs (numbered p.cells) p.branch }

-- the rule numbers of a slip, oldest step first
abbrev pub numbers : List SlipStep → List ℕ
numbers ss = map (λ (s : SlipStep). s.rule) ss

-- ── bytes ──

-- an answer: `20`, how many terms, and the terms
abbrev pub answer_bytes : Slip → List ℕ
answer_bytes s = answer_byte ∷ length s.terms ∷ encodings Slips s.terms

-- a step: `21`, the rule number in two bytes, how many terms, and the terms
abbrev pub step_bytes : SlipStep → List ℕ
step_bytes s = step_byte ∷ (two s.rule ++ (length s.terms ∷ encodings Slips s.terms))

abbrev pub steps_bytes : List SlipStep → List ℕ
steps_bytes [] = []
steps_bytes (s ∷ ss) = step_bytes s ++ steps_bytes ss

-- a slip: the answer, the steps, and `2F`
abbrev pub slip_bytes : Slip → List ℕ
slip_bytes s = answer_bytes s ++ (steps_bytes s.steps ++ (end_byte ∷ []))
