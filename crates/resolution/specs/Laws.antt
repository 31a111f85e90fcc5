-- The laws of the search. Assumes nothing.
use Rattle.std.specs.Prelude.{◌≡◌, ℕ, ◌+◌, ◌<◌, ◌≤◌, ◌⊎◌, List, [], ◌∷◌, ◌++◌, map, length, Ok, Err, Result}
use Rattle.terms.specs.Terms.{Term, Rule, Query}
use Rattle.unification.specs.Variables.{shifted}
use Rattle.unification.specs.Ground.{Replacement}
use Rattle.resolution.specs.declared.Word.{Word}
use Rattle.resolution.specs.declared.Word.TheVariants.{Answer, Spent, Stopped, NoMore}
use Rattle.resolution.specs.declared.Outcome.{Outcome}
use Rattle.resolution.specs.declared.Refusal.{Refusal}
use Rattle.resolution.specs.Rules.{rule, WellDeclared}
use Rattle.resolution.specs.Follows.{QueryFollows, Covers}
use Rattle.resolution.specs.Cells.{fresh, present}
use Rattle.resolution.specs.Limits.{cell_limit, step_limit, allowance_limit}
use Rattle.resolution.specs.Lines.{Step, Place, rules_taken, line, onward, lines}
use Rattle.resolution.specs.Search.{Condition, running, standing, ended, stopped, Search, held, Called, refused, continued, next}
use Rattle.resolution.specs.Calls.{Call, Reply, said, restored, saw, session, run}

-- ── one call ──

-- the lines of a call are one line, and then the lines from where it leads
abbrev pub OneByOne : Type 0
OneByOne = (rs : List Rule) (left : ℕ) (p : Place) → lines rs left p ≡ onward (lines rs) left p (line rs left p)

-- an allowance above the limit is refused before all else and leaves the search as it was; no other is refused
abbrev pub Refuses : Type 0
Refuses =
    (rs : List Rule) (a : ℕ) (s : Search)
    → (allowance_limit < a → next rs a s ≡ refused s) × (a ≤ allowance_limit → next rs a s ≡ continued rs a s s.condition)

-- n tries of a call with the allowance a that ends with the word
abbrev pub Counts : ℕ → ℕ → Word → Type 0
Counts a n Answer = n ≤ a
Counts a n Spent = n ≡ a
Counts a n (Stopped why) = n < a
Counts a n NoMore = n ≤ a

-- an ended or stopped search makes no try
abbrev pub Counted : ℕ → Outcome → Condition → Type 0
Counted a o running = Counts a o.tries o.word
Counted a o standing = Counts a o.tries o.word
Counted a o ended = o.tries ≡ 0
Counted a o (stopped why) = o.tries ≡ 0

abbrev pub IfTold : (Outcome → Type 0) → Result Outcome Refusal → Type 0
IfTold P (Ok o) = P o
IfTold P (Err e) = Unit {0}

-- the tries of a call keep to its allowance, and meet it exactly at spent
abbrev pub KeepsToAllowance : Type 0
KeepsToAllowance = (rs : List Rule) (a : ℕ) (s : Search) → IfTold (λ o. Counted a o s.condition) (next rs a s).result

-- next says the word
abbrev pub Says : Word → Result Outcome Refusal → Type 0
Says w (Ok o) = o.word ≡ w
Says w (Err e) = ⊥

abbrev pub more_tries : ℕ → Result Outcome Refusal → Result Outcome Refusal
more_tries a (Ok o) = Ok (record { word = o.word; tries = a + o.tries })
more_tries a (Err e) = Err e

-- an allowance may be given in two parts: where the first is spent, both together do what the second then does
abbrev pub Splits : Type 0
Splits =
    (rs : List Rule) (a b : ℕ) (s : Search) → a + b ≤ allowance_limit → Says Spent (next rs a s).result
    → let then : Called = next rs b (next rs a s).search in
    next rs (a + b) s ≡ record { result = more_tries a then.result; search = then.search }

-- ── lists of calls ──

abbrev pub Each : (Place → Type 0) → List Place → Type 0
Each P [] = Unit {0}
Each P (p ∷ ps) = P p × Each P ps

abbrev pub Some : (Place → Type 0) → List Place → Type 0
Some P [] = ⊥
Some P (p ∷ ps) = P p ⊎ Some P ps

-- every replacement that an answer covers follows
abbrev pub Sound : Type 0
Sound =
    (rs : List Rule) (q : Query) → WellDeclared rs q → (calls : List Call)
    → Each (λ (p : Place). (θ : Replacement) → Covers q.variables p.cells θ → QueryFollows rs q θ) (session rs q calls).given

-- whenever next says none, every replacement that follows is covered by an answer given since opening or the last rewind
abbrev pub NoneMeansNone : Type 0
NoneMeansNone =
    (rs : List Rule) (q : Query) → WellDeclared rs q → (calls : List Call) (a : ℕ) → Says NoMore (next rs a (session rs q calls).search).result
    → (θ : Replacement) → QueryFollows rs q θ → Some (λ (p : Place). Covers q.variables p.cells θ) (session rs q calls).given

-- the second list comes after the first in dictionary order
abbrev pub Later : List ℕ → List ℕ → Type 0
Later [] [] = ⊥
Later [] (b ∷ B) = Unit {0}
Later (a ∷ A) [] = ⊥
Later (a ∷ A) (b ∷ B) = (a < b) ⊎ ((a ≡ b) × Later A B)

abbrev pub AfterNewest : Place → List Place → Type 0
AfterNewest p [] = Unit {0}
AfterNewest p (p' ∷ ps) = Later (rules_taken p'.branch) (rules_taken p.branch)

-- each answer's rule numbers come after those of the answer before it
abbrev pub Ordered : List Place → Type 0
Ordered [] = Unit {0}
Ordered (p ∷ ps) = AfterNewest p ps × Ordered ps

-- of two consecutive answers without a rewind between them the later one comes later in dictionary order
abbrev pub InOrder : Type 0
InOrder = (rs : List Rule) (q : Query) (calls : List Call) → Ordered (session rs q calls).given

-- the head and the goals of a step's rule, with the present terms of the step's cells
abbrev pub own_head : List Rule → List Term → Step → Term
own_head rs cells f = present cells (shifted (length f.cells) (rule rs f.rule).head)

abbrev pub own_goals : List Rule → List Term → Step → List Term
own_goals rs cells f = map (present cells) (map (shifted (length f.cells)) (rule rs f.rule).goals)

-- the goals come from the query's by the steps of the branch, in present terms: before a step its head was the first
-- goal, and after it its own goals stand in that one's place
abbrev pub Resolved : List Rule → Query → List Term → List Step → List Term → Type 0
Resolved rs q cells [] goals = goals ≡ map (present cells) q.goals
Resolved rs q cells (f ∷ fs) goals = (rest : List Term) × (goals ≡ own_goals rs cells f ++ rest) × Resolved rs q cells fs (own_head rs cells f ∷ rest)

-- at every moment each step's head equals the goal it was tried on, in present terms
abbrev pub StepsFit : Type 0
StepsFit =
    (rs : List Rule) (q : Query) → WellDeclared rs q → (calls : List Call)
    → let p : Place = (session rs q calls).search.place in Resolved rs q p.cells p.branch p.goals

-- an ended search has no step, and its cells are the query's, as at opening
abbrev pub EndedBare : Type 0
EndedBare =
    (rs : List Rule) (q : Query) (calls : List Call)
    → let s : Search = (session rs q calls).search in
    s.condition ≡ ended → (s.place.branch ≡ []) × (s.place.cells ≡ fresh 0 q.variables)

-- steps and cells in use never exceed their limits
abbrev pub WithinLimits : Type 0
WithinLimits =
    (rs : List Rule) (q : Query) → q.variables ≤ cell_limit → (calls : List Call)
    → let p : Place = (session rs q calls).search.place in (length p.branch ≤ step_limit) × (length p.cells ≤ cell_limit)

-- the tries and the answers in replies since the last rewind, after n before them
abbrev pub tries_in : ℕ → List Reply → ℕ
tries_in n [] = n
tries_in n (said (Ok o) ∷ rs) = tries_in (n + o.tries) rs
tries_in n (said (Err e) ∷ rs) = tries_in n rs
tries_in n (restored ∷ rs) = tries_in 0 rs
tries_in n (saw v ∷ rs) = tries_in n rs

abbrev pub one_if_answer : Word → ℕ
one_if_answer Answer = 1
one_if_answer Spent = 0
one_if_answer (Stopped why) = 0
one_if_answer NoMore = 0

abbrev pub answers_in : ℕ → List Reply → ℕ
answers_in n [] = n
answers_in n (said (Ok o) ∷ rs) = answers_in (n + one_if_answer o.word) rs
answers_in n (said (Err e) ∷ rs) = answers_in n rs
answers_in n (restored ∷ rs) = answers_in 0 rs
answers_in n (saw v ∷ rs) = answers_in n rs

-- the tally tells the tries and answers of all calls since opening or the last rewind, each held at its limit
abbrev pub Tallies : Type 0
Tallies =
    (rs : List Rule) (q : Query) (calls : List Call)
    → let s : Search = (session rs q calls).search in
    (s.tries ≡ held (tries_in 0 (run rs q calls))) × (s.answers ≡ held (answers_in 0 (run rs q calls)))
