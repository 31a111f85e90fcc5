-- An ended search has no step, and its cells are those at opening. Assumes nothing.
use Rattle.std.proofs.Common.{◌≡◌, ℕ, List, [], ◌∷◌, length, sym, refl, subst}
use Rattle.terms.specs.Terms.{Term, Rule, Query}
use Rattle.resolution.specs.declared.Word.{Word}
use Rattle.resolution.specs.declared.Word.TheVariants.{Answer, Spent, Stopped, NoMore}
use Rattle.resolution.specs.Cells.{fresh}
use Rattle.resolution.specs.Lines.{Step, Place, before, back, End, onward, lines}
use Rattle.resolution.specs.Search.{Condition, running, standing, ended, stopped, Search, condition_after, continued}
use Rattle.resolution.specs.Calls.{Session, called, session}
use Rattle.resolution.specs.Laws.{EndedBare}
use Rattle.resolution.proofs.Lines.{Dry, Final, lines_final}
use Rattle.resolution.proofs.Sessions.{Stays, all_kept, sessions_keep, next_by}

-- without a step the cells are those at opening
abbrev Bare : Query → List Term → List Term → List Step → Type 0
Bare q goals cells [] = cells ≡ fresh 0 q.variables
Bare q goals cells (f ∷ fs) = Unit {0}

bare_stays : (rs : List Rule) (q : Query) → Stays rs (Bare q)
bare_stays rs q g rest due cells fs σ l s e h = tt

bare_cells : (q : Query) (goals cells : List Term) (fs : List Step) → fs ≡ [] → Bare q goals cells fs → cells ≡ fresh 0 q.variables
bare_cells q goals cells fs e h = subst (Bare q goals cells) e h

dry_branch : (count : ℕ) (goals : List Term) (due : ℕ) (fs : List Step) → Dry count goals due fs → fs ≡ []
dry_branch count [] due fs h = absurd h
dry_branch count (g ∷ rest) due [] h = refl
dry_branch count (g ∷ rest) due (f ∷ fs) h = absurd h

-- where the search has ended there is no step
abbrev NoStep : Condition → Place → Type 0
NoStep running p = Unit {0}
NoStep standing p = Unit {0}
NoStep ended p = p.branch ≡ []
NoStep (stopped why) p = Unit {0}

module _ (rs : List Rule) where
  end_bare : (w : Word) (left : ℕ) (p : Place) → Final rs w left p → NoStep (condition_after w) p
  end_bare Answer left p f = tt
  end_bare Spent left p f = tt
  end_bare (Stopped why) left p f = tt
  end_bare NoMore left p f = dry_branch (length rs) p.goals p.due p.branch f

  lines_bare : (a : ℕ) (p : Place) → let e : End = lines rs a p in NoStep (condition_after e.word) e.place
  lines_bare a p = end_bare (lines rs a p).word (lines rs a p).left (lines rs a p).place (lines_final rs a p)

  leaving_bare : (a : ℕ) (p : Place) (fs : List Step) → p.branch ≡ fs → let e : End = onward (lines rs) a p (back a fs) in NoStep (condition_after e.word) e.place
  leaving_bare a p [] e = e
  leaving_bare a p (f ∷ fs) e = lines_bare a (before f fs)

  abbrev SessionBare : Session → Type 0
  SessionBare z = NoStep z.search.condition z.search.place

  continued_bare : (a : ℕ) (s : Search) (ps : List Place) (c : Condition) → s.condition ≡ c → NoStep c s.place → SessionBare (called (continued rs a s c) ps)
  continued_bare a s ps running e h = lines_bare a s.place
  continued_bare a s ps standing e h = leaving_bare a s.place s.place.branch refl
  continued_bare a s ps ended e h = subst (λ (c : Condition). NoStep c s.place) (sym e) h
  continued_bare a s ps (stopped why) e h = subst (λ (c : Condition). NoStep c s.place) (sym e) h

pub ended_bare : EndedBare
ended_bare rs q calls e = (none, bare_cells q p.goals p.cells p.branch none (all_kept rs (Bare q) (bare_stays rs q) q refl calls).now_kept.0)
  where
    p : Place
    p = (session rs q calls).search.place

    none : p.branch ≡ []
    none =
        subst (λ (c : Condition). NoStep c p) e
        (sessions_keep rs q (SessionBare rs) tt
        (λ a z h. next_by rs (SessionBare rs) a z h (continued_bare rs a z.search z.given z.search.condition refl h)) calls)
