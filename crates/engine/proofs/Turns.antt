-- How a call of next goes on, and how it ends. Assumes nothing.
use Rattle.std.proofs.Common.{◌≡◌, ℕ, zero, suc, ◌+◌, ◌-◌, ◌<◌, ◌≤◌, Bool, true, false, cond, List, [], ◌∷◌, Ok, sym, refl, ap, ◌∙◌, arith, le-leb}
use borrow.Author.Tests.{lt-leb}
use Rattle.terms.specs.Terms.{Rule}
use Rattle.resolution.specs.declared.Stop.{Stop as Why}
use Rattle.resolution.specs.declared.Word.{Word}
use Rattle.resolution.specs.declared.Word.TheVariants.{Answer, Spent, Stopped, NoMore}
use Rattle.resolution.specs.Limits.{allowance_limit}
use Rattle.resolution.specs.Lines.{Step as Taken, Place, ends, goes_on, back, onward, lines}
use Rattle.resolution.specs.Search.{Condition, running, standing, ended, stopped, Search, held, condition_after, answers_after, Called, settled, refused, continued, next}
use Rattle.resolution.proofs.Lines.{one_by_one}
use Rattle.branches.specs.declared.Due.{Due}
use Rattle.branches.specs.declared.Due.TheVariants.{Nothing, NoRule, Stop, Rule as ARule}
use Rattle.branches.specs.Moves.{due_at, off, attempted, turn}
use Rattle.branches.proofs.Lines.{lines_by_due}
use Rattle.engine.specs.Turns.{comes_to}

-- ── taking off a step ──

pub off_yes : (left : ℕ) (fs : List Taken) (p : Place) → (off fs p).0 ≡ true → back left fs ≡ goes_on left (off fs p).1
off_yes left [] p e = let z : ◌≡◌ {A = ℕ} 0 1 = cc in absurd (omega arith)
off_yes left (f ∷ fs) p e = refl

pub off_no : (left : ℕ) (fs : List Taken) (p : Place) → (off fs p).0 ≡ false → (back left fs ≡ ends NoMore) × ((off fs p).1 ≡ p)
off_no left [] p e = (refl, refl)
off_no left (f ∷ fs) p e = let z : ◌≡◌ {A = ℕ} 0 1 = cc in absurd (omega arith)

-- ── a line ──

module _ (rs : List Rule) (left : ℕ) (p : Place) where
  by_due : (d : Due) → due_at rs p ≡ d → lines rs left p ≡ onward (lines rs) left p (turn rs left p d)
  by_due d e = one_by_one rs left p ∙ ap (onward (lines rs) left p) (lines_by_due rs left p ∙ ap (turn rs left p) e)

  pub line_answer : Nothing ≡ due_at rs p → lines rs left p ≡ record { word = Answer; left = left; place = p }
  line_answer e = by_due Nothing (sym e)

  pub line_back : NoRule ≡ due_at rs p → (off p.branch p).0 ≡ true → lines rs left p ≡ lines rs left (off p.branch p).1
  line_back e o = by_due NoRule (sym e) ∙ ap (onward (lines rs) left p) (off_yes left p.branch p o)

  pub line_none : NoRule ≡ due_at rs p → (off p.branch p).0 ≡ false → lines rs left p ≡ record { word = NoMore; left = left; place = p }
  line_none e o = by_due NoRule (sym e) ∙ ap (onward (lines rs) left p) (off_no left p.branch p o).0

pub stop_spent : (rs : List Rule) (left : ℕ) (p : Place) (why : Why) → Stop why ≡ due_at rs p → left ≡ 0 → lines rs left p ≡ record { word = Spent; left = left; place = p }
stop_spent rs zero p why e z = by_due rs 0 p (Stop why) (sym e)
stop_spent rs (suc l) p why e z = absurd (omega (arith, z))

pub rule_spent : (rs : List Rule) (left : ℕ) (p : Place) → ARule ≡ due_at rs p → left ≡ 0 → lines rs left p ≡ record { word = Spent; left = left; place = p }
rule_spent rs zero p e z = by_due rs 0 p ARule (sym e)
rule_spent rs (suc l) p e z = absurd (omega (arith, z))

pub line_stopped : (rs : List Rule) (left : ℕ) (p : Place) (why : Why) → Stop why ≡ due_at rs p → 0 < left → lines rs left p ≡ record { word = Stopped why; left = left; place = p }
line_stopped rs zero p why e l = absurd (omega (arith, l))
line_stopped rs (suc n) p why e l = by_due rs (suc n) p (Stop why) (sym e)

pub line_tried : (rs : List Rule) (left rest : ℕ) (p : Place) → ARule ≡ due_at rs p → left ≡ suc rest → lines rs left p ≡ lines rs rest (attempted rs p)
line_tried rs left rest p e l = ap (λ (n : ℕ). lines rs n p) l ∙ by_due rs (suc rest) p ARule (sym e)

-- ── a call ──

pub begins : (rs : List Rule) (a : ℕ) (s : Search) (c : Condition) → continued rs a s c ≡ comes_to rs a s a s.place c
begins rs a s running = refl
begins rs a s standing = refl
begins rs a s ended = refl
begins rs a s (stopped why) = refl

module _ (rs : List Rule) (a : ℕ) (s : Search) where
  pub next_refused : allowance_limit < a → next rs a s ≡ refused s
  next_refused l = ap (λ (b : Bool). cond b (continued rs a s s.condition) (refused s)) (lt-leb a allowance_limit l)

  pub next_allowed : a ≤ allowance_limit → next rs a s ≡ comes_to rs a s a s.place s.condition
  next_allowed l =
      ap (λ (b : Bool). cond b (continued rs a s s.condition) (refused s)) (le-leb a allowance_limit l) ∙ begins rs a s s.condition

  -- The call ends with this word at this place, with so many tries made.
  module _ (w : Word) (n left : ℕ) (p : Place) (within : n ≤ a) (rest : left ≡ a - n) (allowed : a ≤ allowance_limit)
      (is : settled a s (record { word = w; left = left; place = p }) ≡ comes_to rs a s a s.place s.condition) where
    made : a - left ≡ n
    made = omega (arith, within, rest)

    pub ended_result : Ok (record { word = w; tries = n }) ≡ (next rs a s).result
    ended_result =
        ap (λ (k : ℕ). Ok (record { word = w; tries = k })) (sym made) ∙ ap (λ (x : Called). x.result) (is ∙ sym (next_allowed allowed))

    pub ended_search : record { condition = condition_after w; place = p; tries = held (s.tries + n); answers = answers_after w s.answers } ≡ (next rs a s).search
    ended_search =
        ap (λ (k : ℕ). record { condition = condition_after w; place = p; tries = held (s.tries + k); answers = answers_after w s.answers }) (sym made)
        ∙ ap (λ (x : Called). x.search) (is ∙ sym (next_allowed allowed))
