-- Reading the terms of an answer, and the terms and steps of a slip, back from bytes. Assumes nothing.
use Rattle.std.specs.Prelude.{ℕ, zero, suc, ◌+◌, cond, List, [], ◌∷◌, length, drop, Ok, Err, Result, ◌==◌}
use Rattle.terms.specs.Terms.{Term}
use Rattle.grammar.specs.Asking.{ask, go}
use Rattle.resolution.specs.Limits.{step_limit}
use Rattle.slips.specs.Slips.{answer_byte, step_byte, end_byte, SlipStep, Slip}
use Rattle.slips.specs.Checker.{terms_at, begins, is_only, step_operands, step_size}

-- the number after `20`
abbrev pub count_in : List ℕ → Result ℕ Unit
count_in [] = Err tt
count_in (x ∷ []) = Err tt
count_in (x ∷ n ∷ bs) = ask (x == answer_byte) tt (Ok n)

-- the terms at the front of an answer or a slip, and the place after them
abbrev pub front_in : List ℕ → Result (List Term × ℕ) Unit
front_in bytes = go (count_in bytes) (λ e. e) (λ n. go (terms_at n 2 bytes) (λ e. tt) (λ t. Ok t))

-- the terms of an answer: nothing stands after them
abbrev pub answer_in : List ℕ → Result (List Term) Unit
answer_in bytes = go (front_in bytes) (λ e. e) (λ t. ask (t.1 == length bytes) tt (Ok t.0))

abbrev pub with_step : SlipStep → Result (List SlipStep) Unit → Result (List SlipStep) Unit
with_step s (Ok ss) = Ok (s ∷ ss)
with_step s (Err e) = Err e

-- at most so many steps from the place p of the slip on, and `2F` after them
abbrev pub steps_in : List ℕ → ℕ → ℕ → Result (List SlipStep) Unit
steps_in slip zero p = ask (is_only end_byte (drop p slip)) tt (Ok [])
steps_in slip (suc left) p =
    cond (is_only end_byte (drop p slip)) (Ok [])
    (ask (begins step_byte (drop p slip)) tt
    (go (step_operands p (drop (suc p) slip)) (λ e. tt) (λ o.
    go (terms_at o.1 (p + step_size) slip) (λ e. tt) (λ t.
    with_step (record { rule = o.0; terms = t.0 }) (steps_in slip left t.1)))))

-- the terms and the steps of a slip
abbrev pub slip_in : List ℕ → Result Slip Unit
slip_in slip = go (front_in slip) (λ e. e) (λ t. go (steps_in slip step_limit t.1) (λ e. e) (λ ss. Ok (record { terms = t.0; steps = ss })))
