-- A call of next on a search: from turn to turn, and at its end. Assumes nothing.
use Rattle.std.proofs.Common.{◌≡◌, ℕ, ◌+◌, ◌-◌, ◌≤◌, false, List, Ok, sym, refl, ap, ◌∙◌, subst, ap₂}
use Rattle.terms.specs.Terms.{Rule}
use Rattle.resolution.specs.declared.Word.{Word}
use Rattle.resolution.specs.declared.Word.TheVariants.{NoMore}
use Rattle.resolution.specs.Limits.{allowance_limit}
use Rattle.resolution.specs.Lines.{Place, End, onward, lines}
use Rattle.resolution.specs.Search.{Condition as DefinedCondition, held, condition_after, answers_after, settled, next}
use Rattle.branches.specs.Moves.{off}
use Rattle.machine.specs.declared.machine.Machine.{Machine}
use Rattle.machine.specs.Machines.{rules, query, place}
use Rattle.engine.specs.declared.search.Condition.{Condition}
use Rattle.engine.specs.declared.search.Condition.TheVariants.{Running, Standing}
use Rattle.engine.specs.declared.search.Search.{Search}
use Rattle.engine.specs.Models.{condition_of, rules_of, query_of, model}
use Rattle.engine.specs.Turns.{comes_to, Still}
use Rattle.engine.proofs.Turns.{off_no, ended_result, ended_search}

-- the search s₀ came to s in a call with the allowance a, after n tries
abbrev pub OnWay : Search → Search → ℕ → ℕ → Type 0
OnWay s₀ s a n =
    (n ≤ a) × (rules_of s ≡ rules_of s₀) × (query_of s ≡ query_of s₀) × (s.tries ≡ s₀.tries) × (s.answers ≡ s₀.answers)
    × (comes_to (rules_of s₀) a (model s₀) (a - n) (place s.machine) (condition_of s.condition) ≡ comes_to (rules_of s₀) a (model s₀) a (place s₀.machine) (condition_of s₀.condition))
    × Still (condition_of s.condition) (model s) (model s₀)

module _ (s₀ s : Search) (a n : ℕ) (way : OnWay s₀ s a n) (runs : s.condition ≡ Running) where
  -- where the call came from, by the lines from here
  from_here : settled a (model s₀) (lines (rules_of s₀) (a - n) (place s.machine)) ≡ comes_to (rules_of s₀) a (model s₀) a (place s₀.machine) (condition_of s₀.condition)
  from_here =
      ap (λ (c : Condition). comes_to (rules_of s₀) a (model s₀) (a - n) (place s.machine) (condition_of c)) (sym runs) ∙ way.5

  -- The same lines from another place, with fewer tries left.
  pub goes_on_with : (s' : Search) (k : ℕ) → k ≤ a → rules_of s' ≡ rules_of s → query_of s' ≡ query_of s → s'.tries ≡ s.tries → s'.answers ≡ s.answers → s'.condition ≡ s.condition
      → lines (rules_of s₀) (a - n) (place s.machine) ≡ lines (rules_of s₀) (a - k) (place s'.machine) → OnWay s₀ s' a k
  goes_on_with s' k l r q t u c e = (
    l,
    r ∙ way.1,
    q ∙ way.2,
    t ∙ way.3,
    u ∙ way.4,
    ap (λ (x : Condition). comes_to (rules_of s₀) a (model s₀) (a - k) (place s'.machine) (condition_of x)) (c ∙ runs)
        ∙ ap (settled a (model s₀)) (sym e) ∙ from_here,
    subst (λ (x : Condition). Still (condition_of x) (model s') (model s₀)) (sym (c ∙ runs)) tt,
  )

  -- The call ends here.
  pub ends_with : (e : End) → lines (rules_of s₀) (a - n) (place s.machine) ≡ e
      → settled a (model s₀) e ≡ comes_to (rules_of s₀) a (model s₀) a (place s₀.machine) (condition_of s₀.condition)
  ends_with e q = ap (settled a (model s₀)) (sym q) ∙ from_here

  -- the same with the rules as they are now
  pub due_here : {A : Type 0} (f : List Rule → A) (x : A) → x ≡ f (rules s.machine) → x ≡ f (rules_of s₀)
  due_here f x e = e ∙ ap f way.1

-- what is owed at the end of a call
pub record Done (s₀ s' : Search) (w : Word) (a n : ℕ) : Type 0 where
  pub result : Ok (record { word = w; tries = n }) ≡ (next (rules_of s₀) a (model s₀)).result
  pub search : model s' ≡ (next (rules_of s₀) a (model s₀)).search
  pub rules : rules_of s' ≡ rules_of s₀
  pub query : query_of s' ≡ query_of s₀

module _ (s₀ s₁ s' : Search) (w : Word) (a n : ℕ) (within : n ≤ a) (allowed : a ≤ allowance_limit)
    (rules_same : rules_of s₁ ≡ rules_of s₀) (query_same : query_of s₁ ≡ query_of s₀) (tries_same : s₁.tries ≡ s₀.tries) (answers_same : s₁.answers ≡ s₀.answers)
    (is : settled a (model s₀) (record { word = w; left = a - n; place = place s₁.machine }) ≡ comes_to (rules_of s₀) a (model s₀) a (place s₀.machine) (condition_of s₀.condition))
    (machine : s'.machine ≡ s₁.machine) (condition : condition_of s'.condition ≡ condition_after w)
    (tries : s'.tries ≡ held (s₁.tries + n)) (answers : s'.answers ≡ answers_after w s₁.answers) where
  model_is : model s' ≡ record { condition = condition_after w; place = place s₁.machine; tries = held (s₀.tries + n); answers = answers_after w s₀.answers }
  model_is =
      ap₂ (λ (c : DefinedCondition) (m : Machine). record { condition = c; place = place m; tries = s'.tries; answers = s'.answers }) condition machine
      ∙ ap₂ (λ (t u : ℕ). record { condition = condition_after w; place = place s₁.machine; tries = t; answers = u }) (tries ∙ ap (λ (t : ℕ). held (t + n)) tries_same)
      (answers ∙ ap (answers_after w) answers_same)

  pub done : Done s₀ s' w a n
  done =
      record {
        result = ended_result (rules_of s₀) a (model s₀) w n (a - n) (place s₁.machine) within refl allowed is;
        search = model_is ∙ ended_search (rules_of s₀) a (model s₀) w n (a - n) (place s₁.machine) within refl allowed is;
        rules = ap rules machine ∙ rules_same;
        query = ap query machine ∙ query_same;
      }

module _ (s₀ s s₁ s' : Search) (a n : ℕ) (way : OnWay s₀ s a n) (allowed : a ≤ allowance_limit) (w v : Word) (word_is : w ≡ v)
    (rules_same : rules_of s₁ ≡ rules_of s) (query_same : query_of s₁ ≡ query_of s) (tries_same : s₁.tries ≡ s.tries) (answers_same : s₁.answers ≡ s.answers)
    (place_same : place s₁.machine ≡ place s.machine)
    (is : settled a (model s₀) (record { word = v; left = a - n; place = place s.machine }) ≡ comes_to (rules_of s₀) a (model s₀) a (place s₀.machine) (condition_of s₀.condition))
    (machine : s'.machine ≡ s₁.machine) (condition : condition_of s'.condition ≡ condition_after w)
    (tries : s'.tries ≡ held (s₁.tries + n)) (answers : s'.answers ≡ answers_after w s₁.answers) where
  -- The call is over, at the place where it stood.
  pub done_at : Done s₀ s' w a n
  done_at =
      done s₀ s₁ s' w a n way.0 allowed (rules_same ∙ way.1) (query_same ∙ way.2) (tries_same ∙ way.3) (answers_same ∙ way.4)
      (ap₂ (λ (x : Word) (p : Place). settled a (model s₀) (record { word = x; left = a - n; place = p })) word_is place_same ∙ is)
      machine condition tries answers

-- A standing answer is left, and there is no step to take off.
pub standing_none : (s₀ s : Search) (a n : ℕ) → OnWay s₀ s a n → s.condition ≡ Standing → (off (place s.machine).branch (place s.machine)).0 ≡ false
    → settled a (model s₀) (record { word = NoMore; left = a - n; place = place s.machine }) ≡ comes_to (rules_of s₀) a (model s₀) a (place s₀.machine) (condition_of s₀.condition)
standing_none s₀ s a n way stands o =
    ap (λ x. settled a (model s₀) (onward (lines (rules_of s₀)) (a - n) (place s.machine) x)) (sym (off_no (a - n) (place s.machine).branch (place s.machine) o).0)
    ∙ ap (λ (c : Condition). comes_to (rules_of s₀) a (model s₀) (a - n) (place s.machine) (condition_of c)) (sym stands) ∙ way.5
