-- The answers that a list of calls gave: they cover what follows, and come in order. Assumes nothing.
use Rattle.std.proofs.Common.{◌≡◌, ℕ, List, [], ◌∷◌, ◌++◌, map, Ok, Err, Result, sym, refl, ap, ◌∙◌, subst, inl, inr, append_assoc, append-nil}
use Rattle.terms.specs.Terms.{Term, Rule}
use Rattle.unification.specs.Ground.{Replacement}
use Rattle.resolution.specs.declared.Word.{Word}
use Rattle.resolution.specs.declared.Word.TheVariants.{Answer, Spent, Stopped, NoMore}
use Rattle.resolution.specs.declared.Outcome.{Outcome}
use Rattle.resolution.specs.declared.Refusal.{Refusal}
use Rattle.resolution.specs.Follows.{Covers}
use Rattle.resolution.specs.Lines.{Step, Place, rules_taken}
use Rattle.resolution.specs.Search.{standing, Called, next}
use Rattle.resolution.specs.Calls.{Session, given_by, given_with, after_call, after_calls}
use Rattle.resolution.specs.Laws.{Each, Some, Later, Ordered}
use Rattle.resolution.specs.Laws
use Rattle.resolution.proofs.Cells.{map-append}
use Rattle.resolution.proofs.Completeness
use Rattle.resolution.proofs.Order
use Rattle.slips.specs.Slips.{SlipStep, steps_of, slip_of, numbers, answer_bytes}
use Rattle.slips.specs.Opening.{Opened}
use Rattle.slips.specs.Runs.{Request, to_next, to_rewind, to_tally, to_hold, to_answer, to_slip, told}
use Rattle.slips.specs.Checker.{Claims}
use Rattle.slips.specs.Laws.{Opens, Says, NoRewind, Given, NoneMeansNone, InOrder}
use Rattle.slips.proofs.Own.{Ready}
use Rattle.slips.proofs.Runs.{move, met, reached_append, answer_stands, returns_as, as_returns}
use Rattle.slips.proofs.Opening.{well_declared, ready}
use Rattle.slips.proofs.Standing.{here, slip_here, stands, answer_claims}

-- ── what next said ──

said_as : (o : Opened) (calls : List Request) (a : ℕ) (w : Word) (k : Says o calls a w) → (next o.rules a (met o calls).search).result ≡ Ok (record { word = w; tries = k.tries })
said_as o calls a w k = let e = returns_as o calls (to_next a) (told (Ok (record { word = w; tries = k.tries }))) k.returns in cc

abbrev reached_next : (o : Opened) (calls : List Request) (a : ℕ) → Called
reached_next o calls a = next o.rules a (met o calls).search

-- the session after one call more
reached_more : (o : Opened) (calls : List Request) (r : Request)
    → met o (calls ++ (r ∷ [])) ≡ after_call o.rules o.query (move r) (met o calls)
reached_more o calls r = reached_append o.rules o.query calls (r ∷ [])

-- an answer that next gave stands, and is the newest
standing_after : (o : Opened) (calls : List Request) (a : ℕ) → Says o calls a Answer → (met o (calls ++ (to_next a ∷ []))).search.condition ≡ standing
standing_after o calls a k =
    ap (λ (z : Session). z.search.condition) (reached_more o calls (to_next a))
    ∙ answer_stands o.rules o.query a (met o calls).search (record { word = Answer; tries = k.tries }) (said_as o calls a Answer k) refl

newest_after : (o : Opened) (calls : List Request) (a : ℕ) → Says o calls a Answer
    → (met o (calls ++ (to_next a ∷ []))).given
    ≡ (met o (calls ++ (to_next a ∷ []))).search.place ∷ (met o calls).given
newest_after o calls a k =
    ap (λ (z : Session). z.given) (reached_more o calls (to_next a))
    ∙ ap (λ r. given_with r (reached_next o calls a).search.place (met o calls).given) (said_as o calls a Answer k)
    ∙ ap (λ (z : Session). z.search.place ∷ (met o calls).given) (sym (reached_more o calls (to_next a)))

-- ── answers stay given until a rewind ──

no_rewind_append : (xs ys : List Request) → NoRewind xs → NoRewind ys → NoRewind (xs ++ ys)
no_rewind_append [] ys h k = k
no_rewind_append (to_next a ∷ xs) ys h k = no_rewind_append xs ys h k
no_rewind_append (to_rewind ∷ xs) ys h k = absurd h
no_rewind_append (to_tally ∷ xs) ys h k = no_rewind_append xs ys h k
no_rewind_append (to_hold ∷ xs) ys h k = no_rewind_append xs ys h k
no_rewind_append (to_answer buffer ∷ xs) ys h k = no_rewind_append xs ys h k
no_rewind_append (to_slip buffer ∷ xs) ys h k = no_rewind_append xs ys h k

module _ (texts : List (List ℕ)) (bs : List ℕ) (o : Opened) (h : Opens texts bs o) where
  -- the answer at the place p was given in these calls
  abbrev Gave : List Request → Place → Type 0
  Gave calls p = (g : Given o calls) × (g.slip ≡ slip_of o.rules o.query p) × Ready o.rules o.query p

  one_later : (calls : List Request) (r : Request) → NoRewind (r ∷ []) → (p : Place) → Gave calls p → Gave (calls ++ (r ∷ [])) p
  one_later calls r n p (g, s, k) = (
    record {
      earlier = g.earlier;
      allowance = g.allowance;
      later = g.later ++ (r ∷ []);
      split = ap (λ l. l ++ (r ∷ [])) g.split ∙ append_assoc g.earlier (to_next g.allowance ∷ g.later) (r ∷ []);
      since = no_rewind_append g.later (r ∷ []) g.since n;
      says = g.says;
      slip = g.slip;
      stands = g.stands;
    },
    s,
    k,
  )

  each_later : (calls : List Request) (r : Request) → NoRewind (r ∷ []) → (ps : List Place) → Each (Gave calls) ps → Each (Gave (calls ++ (r ∷ []))) ps
  each_later calls r n [] g = tt
  each_later calls r n (p ∷ ps) g = (one_later calls r n p g.0, each_later calls r n ps g.1)

  new_answer : (calls : List Request) (a : ℕ) → Says o calls a Answer → Gave (calls ++ (to_next a ∷ [])) (here texts bs o h (calls ++ (to_next a ∷ [])))
  new_answer calls a k = (
    record {
      earlier = calls;
      allowance = a;
      later = [];
      split = refl;
      since = tt;
      says = k;
      slip = slip_here texts bs o h (calls ++ (to_next a ∷ []));
      stands = stands texts bs o h (calls ++ (to_next a ∷ [])) (standing_after o calls a k);
    },
    refl,
    ready texts bs o h (calls ++ (to_next a ∷ [])),
  )

  -- by what next said
  word_given : (calls : List Request) (a : ℕ) → Each (Gave calls) (met o calls).given
      → (w : Word) (n : ℕ) → (reached_next o calls a).result ≡ Ok (record { word = w; tries = n })
      → Each (Gave (calls ++ (to_next a ∷ []))) (given_by w (reached_next o calls a).search.place (met o calls).given)
  word_given calls a g Answer n e = (
    subst (Gave (calls ++ (to_next a ∷ []))) (ap (λ (z : Session). z.search.place) (reached_more o calls (to_next a)))
        (new_answer calls a (record { tries = n; returns = as_returns o calls (to_next a) (told (Ok (record { word = Answer; tries = n }))) (ap told e) })),
    each_later calls (to_next a) tt (met o calls).given g,
  )
  word_given calls a g Spent n e = each_later calls (to_next a) tt (met o calls).given g
  word_given calls a g (Stopped why) n e = each_later calls (to_next a) tt (met o calls).given g
  word_given calls a g NoMore n e = each_later calls (to_next a) tt (met o calls).given g

  told_given : (calls : List Request) (a : ℕ) → Each (Gave calls) (met o calls).given
      → (r : Result Outcome Refusal) → (reached_next o calls a).result ≡ r
      → Each (Gave (calls ++ (to_next a ∷ []))) (given_with r (reached_next o calls a).search.place (met o calls).given)
  told_given calls a g (Ok out) e = word_given calls a g out.word out.tries e
  told_given calls a g (Err x) e = each_later calls (to_next a) tt (met o calls).given g

  moved_given : (calls : List Request) (r : Request) → Each (Gave calls) (met o calls).given
      → Each (Gave (calls ++ (r ∷ []))) (after_call o.rules o.query (move r) (met o calls)).given
  moved_given calls (to_next a) g = told_given calls a g (reached_next o calls a).result refl
  moved_given calls to_rewind g = tt
  moved_given calls to_tally g = each_later calls to_tally tt (met o calls).given g
  moved_given calls to_hold g = each_later calls to_hold tt (met o calls).given g
  moved_given calls (to_answer buffer) g = each_later calls (to_answer buffer) tt (met o calls).given g
  moved_given calls (to_slip buffer) g = each_later calls (to_slip buffer) tt (met o calls).given g

  abbrev AllGave : List Request → Type 0
  AllGave calls = Each (Gave calls) (met o calls).given

  more_gave : (calls : List Request) (r : Request) → AllGave calls → AllGave (calls ++ (r ∷ []))
  more_gave calls r g = subst (λ (z : Session). Each (Gave (calls ++ (r ∷ []))) z.given) (sym (reached_more o calls r)) (moved_given calls r g)

  gave_from : (calls more : List Request) → AllGave calls → AllGave (calls ++ more)
  gave_from calls [] g = subst AllGave (sym (append-nil calls)) g
  gave_from calls (r ∷ more) g = subst AllGave (append_assoc calls (r ∷ []) more) (gave_from (calls ++ (r ∷ [])) more (more_gave calls r g))

  all_gave : (calls : List Request) → AllGave calls
  all_gave calls = gave_from [] calls tt

  -- the one of them that covers the replacement
  pick : (calls : List Request) (θ : Replacement) (ps : List Place) → Each (Gave calls) ps → Some (λ (p : Place). Covers o.query.variables p.cells θ) ps
      → (g : Given o calls) × Claims o.query (answer_bytes g.slip) θ
  pick calls θ [] e s = absurd s
  pick calls θ (p ∷ ps) e (inl c) =
      let (g, same, k) = e.0 in
      (g, subst (λ s. Claims o.query (answer_bytes s) θ) (sym same) (answer_claims texts bs o h p k θ c))
  pick calls θ (p ∷ ps) e (inr s) = pick calls θ ps e.1 s

pub none_means_none : NoneMeansNone
none_means_none texts bs o h calls a k θ f =
    pick texts bs o h calls θ (met o calls).given (all_gave texts bs o h calls)
    (Completeness.none_means_none o.rules o.query (well_declared texts bs o h) (map move calls) a
    (subst (Laws.Says NoMore) (sym (said_as o calls a NoMore k)) refl) θ f)

-- ── order ──

-- the rule numbers of a slip are those of the branch
numbers_taken : (rs : List Rule) (ts : List Term) (fs : List Step) → numbers (steps_of rs ts fs) ≡ rules_taken fs
numbers_taken rs ts [] = refl
numbers_taken rs ts (f ∷ fs) =
    map-append (λ (s : SlipStep). s.rule) (steps_of rs ts fs) _ ∙ ap (λ l. l ++ (f.rule ∷ [])) (numbers_taken rs ts fs)

-- the first of the places comes after each that stands behind it
later_than : (p p' : Place) (newer older : List Place) → Ordered (p ∷ (newer ++ (p' ∷ older))) → Later (rules_taken p'.branch) (rules_taken p.branch)
later_than p p' [] older e = e.0
later_than p p' (n ∷ newer) older e =
    Order.later_trans (rules_taken p'.branch) (rules_taken n.branch) (rules_taken p.branch) (later_than n p' newer older e.1) e.0

-- without a rewind the answers given stay, behind newer ones
abbrev Behind : List Place → List Place → Type 0
Behind ps now = (newer : List Place) × (now ≡ newer ++ ps)

word_behind : (w : Word) (p : Place) (ps : List Place) → Behind ps (given_by w p ps)
word_behind Answer p ps = (p ∷ [], refl)
word_behind Spent p ps = ([], refl)
word_behind (Stopped why) p ps = ([], refl)
word_behind NoMore p ps = ([], refl)

given_behind : (r : Result Outcome Refusal) (p : Place) (ps : List Place) → Behind ps (given_with r p ps)
given_behind (Ok out) p ps = word_behind out.word p ps
given_behind (Err x) p ps = ([], refl)

behind_more : (ps now then : List Place) → Behind ps now → Behind now then → Behind ps then
behind_more ps now then (a, e) (b, f) = (b ++ a, f ∙ ap (λ l. b ++ l) e ∙ sym (append_assoc b a ps))

stays_given : (o : Opened) (calls : List Request) → NoRewind calls → (z : Session) → Behind z.given (after_calls o.rules o.query (map move calls) z).given
stays_given o [] n z = ([], refl)
stays_given o (to_next a ∷ calls) n z =
    let z' : Session = after_call o.rules o.query (move (to_next a)) z in
    behind_more z.given z'.given (after_calls o.rules o.query (map move calls) z').given
    (given_behind (next o.rules a z.search).result (next o.rules a z.search).search.place z.given) (stays_given o calls n z')
stays_given o (to_rewind ∷ calls) n z = absurd n
stays_given o (to_tally ∷ calls) n z = stays_given o calls n z
stays_given o (to_hold ∷ calls) n z = stays_given o calls n z
stays_given o (to_answer buffer ∷ calls) n z = stays_given o calls n z
stays_given o (to_slip buffer ∷ calls) n z = stays_given o calls n z

pub in_order : InOrder
in_order texts bs o h calls between a b n k l = (
  slip_here texts bs o h first,
  slip_here texts bs o h second,
  stands texts bs o h first (standing_after o calls a k),
  stands texts bs o h second (standing_after o (first ++ between) b l),
  subst (Later (numbers (slip_here texts bs o h first).steps)) (sym (numbers_taken o.rules _ (here texts bs o h second).branch))
      (subst (λ ns. Later ns (rules_taken (here texts bs o h second).branch)) (sym (numbers_taken o.rules _ (here texts bs o h first).branch))
      (later_than (here texts bs o h second) (here texts bs o h first) kept.0 older (subst Ordered all_given (Order.in_order o.rules o.query (map move second))))),
)
  where
    first : List Request
    first = calls ++ (to_next a ∷ [])

    second : List Request
    second = (first ++ between) ++ (to_next b ∷ [])

    older : List Place
    older = (met o calls).given

    kept : Behind (here texts bs o h first ∷ older) (met o (first ++ between)).given
    kept =
        subst (λ ps. Behind ps (met o (first ++ between)).given) (newest_after o calls a k)
        (subst (λ (z : Session). Behind (met o first).given z.given) (sym (reached_append o.rules o.query first between))
        (stays_given o between n (met o first)))

    all_given : (met o second).given ≡ here texts bs o h second ∷ (kept.0 ++ (here texts bs o h first ∷ older))
    all_given = newest_after o (first ++ between) b l ∙ ap (λ ps. here texts bs o h second ∷ ps) kept.1
