-- What is due at a place of the search, and the moves from it. Assumes nothing.
use Rattle.std.specs.Prelude.{◌≡◌, ℕ, zero, suc, Bool, true, false, cond, List, [], ◌∷◌, length, nat_lt}
use Rattle.std.proofs.Math.Option.{Option, none, some}
use Rattle.terms.specs.Terms.{Term, Rule}
use Rattle.resolution.specs.declared.Stop.{Stop as Why}
use Rattle.resolution.specs.declared.Word.TheVariants.{Answer, Spent, Stopped}
use Rattle.resolution.specs.Lines.{Step as Taken, Place, Turn, ends, goes_on, before, back, stop, tried, line}
use Rattle.branches.specs.declared.Due.{Due}
use Rattle.branches.specs.declared.Due.TheVariants.{Nothing, NoRule, Stop, Rule as ARule}

abbrev pub due_unless : Option Why → Due
due_unless (some why) = Stop why
due_unless none = ARule

abbrev pub due_for : List Rule → Place → List Term → Due
due_for rs p [] = Nothing
due_for rs p (g ∷ rest) = cond (nat_lt p.due (length rs)) (due_unless (stop rs p)) NoRule

-- what is due at a place
abbrev pub due_at : List Rule → Place → Due
due_at rs p = due_for rs p p.goals

-- whether a step can be taken off, and the place then; without a step it stays
abbrev pub off : List Taken → Place → Bool × Place
off [] p = (false, p)
off (f ∷ fs) p = (true, before f fs)

abbrev pub attempted_if : List Rule → Place → Due → List Term → Place
attempted_if rs p ARule (g ∷ rest) = tried rs p g rest
attempted_if rs p ARule [] = p
attempted_if rs p Nothing gs = p
attempted_if rs p NoRule gs = p
attempted_if rs p (Stop why) gs = p

-- the place after a try, where one can be made; else it stays
abbrev pub attempted : List Rule → Place → Place
attempted rs p = attempted_if rs p (due_at rs p) p.goals

-- a line of the search by what is due, with so many tries left
abbrev pub turn : List Rule → ℕ → Place → Due → Turn
turn rs left p Nothing = ends Answer
turn rs left p NoRule = back left p.branch
turn rs zero p (Stop why) = ends Spent
turn rs (suc left) p (Stop why) = ends (Stopped why)
turn rs zero p ARule = ends Spent
turn rs (suc left) p ARule = goes_on left (attempted rs p)

-- the lines of the search are taken by what is due
abbrev pub LinesByDue : Type 0
LinesByDue = (rs : List Rule) (left : ℕ) (p : Place) → line rs left p ≡ turn rs left p (due_at rs p)
