-- The answer and the slip put into a sink. Assumes nothing.
use Rattle.std.proofs.Common.{◌≡◌, ℕ, suc, ◌+◌, ◌<◌, ◌≤◌, List, [], ◌∷◌, ◌++◌, reverse, length, get_or, take, drop, sym, refl, ap, ◌∙◌, subst, arith, Ok, Err, Result, IsErr}
use Rattle.std.proofs.Math.Seq.{take-suc}
use Rattle.std.proofs.lemmas.List.{take_all, take-append-drop, reverse-append}
use Rattle.terms.specs.Terms.{Term}
use Rattle.slips.specs.Slips.{Slip, end_byte, numbered, step_bytes, steps_bytes, answer_bytes, slip_bytes}
use Rattle.branches.specs.declared.Step.{Step}
use Rattle.branches.specs.declared.Clause.{Clause}
use Rattle.branches.specs.Clauses.{clause}
use Rattle.branches.specs.Branches.{Kept}
use Rattle.branches.proofs.Remaining.{kept_query}
use Rattle.branches.proofs.Slips.{slip_steps, cells_after, Next, one_more, bytes_older, kept_next, steps_are}
use Rattle.machine.specs.Branches.{taken}
use Rattle.machine.specs.declared.view.View.{View}
use Rattle.machine.specs.Climbs.{steps_in}
use Rattle.machine.proofs.Climbs.{no_step}
use Rattle.machine.specs.Views.{Lent}
use Rattle.machine.specs.Sinks.{Puts}
use Rattle.machine.specs.Numberings.{seen_terms, Met}
use Rattle.machine.specs.States.{State, text_of, place_of, Good}
use Rattle.machine.specs.Writings.{slip_at}
use Rattle.machine.proofs.Sinks.{puts_nothing, puts_then, puts_over, refused}
use Rattle.machine.specs.declared.instance.Writer.{Writer}
use Rattle.machine.specs.declared.sink.NoRoom.{NoRoom}
use Rattle.machine.specs.declared.sink.Sink.{Sink}
use Rattle.machine.proofs.Numberings.{seen_cells}

-- ── the steps of a table ──

-- Older steps stand at the end of the branch.
older_after : (steps : List Step) (k : ℕ) → reverse steps ≡ reverse (drop k steps) ++ reverse (take k steps)
older_after steps k = sym (ap reverse (take-append-drop k steps)) ∙ reverse-append (take k steps) (drop k steps)

-- ── what is lent ──

module _ (s : State) (g : Good s) (v : View) (lent : Lent s.tables.text s.tables.cells v) where
  pub lent_query : s.question.variables ≤ v.used
  lent_query =
      omega (arith, lent.used, kept_query (text_of s) s.clauses s.question.variables (steps_in s.tables) s.tables.cells.table s.tables.cells.newest s.tables.cells.used g.order.kept)

  lent_terms : seen_terms v ≡ (place_of s).cells
  lent_terms = seen_cells lent

  pub lent_answer : {a b : Sink} {r : Result Unit NoRoom} → Puts a b (answer_bytes (record { terms = take s.question.variables (numbered (seen_terms v)); steps = [] })) r
      → Puts a b (answer_bytes (slip_at s)) r
  lent_answer {a} {b} {r} = subst (λ (ts : List Term). Puts a b (answer_bytes (record { terms = take s.question.variables (numbered ts); steps = [] })) r) lent_terms

  lent_steps : (slip_at s).steps ≡ slip_steps s.clauses (numbered (seen_terms v)) (steps_in s.tables)
  lent_steps =
      steps_are s.clauses (text_of s) s.question.variables (numbered (place_of s).cells) (steps_in s.tables) s.tables.cells.table s.tables.cells.newest s.tables.cells.used g.order.kept
      ∙ ap (λ (ts : List Term). slip_steps s.clauses (numbered ts) (steps_in s.tables)) (sym lent_terms)

-- ── step by step ──

-- the bytes of the first k steps
abbrev pub first_steps : State → View → ℕ → List ℕ
first_steps s v k = steps_bytes (slip_steps s.clauses (numbered (seen_terms v)) (reverse (take k (taken s.tables.branch))))

-- how many cells were in use after them
abbrev pub first_cells : State → ℕ → ℕ
first_cells s k = cells_after s.clauses s.question.variables (reverse (take k (taken s.tables.branch)))

-- from the writer a on the first k steps are put, and the numbering has met their cells
pub record Stepped (s : State) (v : View) (k : ℕ) (a b : Writer) : Type 0 where
  pub same : b.sink.ghost_name ≡ a.sink.ghost_name
  pub puts : Puts a.sink.now b.sink.now (first_steps s v k) (Ok tt)
  pub met : Met v (first_cells s k) b.numbering

pub no_step_put : (s : State) (v : View) (a : Writer) → a.sink.now.count ≤ length a.sink.now.buffer.now → Met v s.question.variables a.numbering → Stepped s v 0 a a
no_step_put s v a room met = record { same = refl; puts = puts_nothing a.sink.now room; met = met }

module _ (s : State) (g : Good s) (v : View) (lent : Lent s.tables.text s.tables.cells v) where
  -- All are put,
  pub steps_put : (k : ℕ) → length (taken s.tables.branch) ≤ k → {a b : Writer} → Stepped s v k a b → Puts a.sink.now b.sink.now (steps_bytes (slip_at s).steps) (Ok tt)
  steps_put k e {a} {b} p =
      subst (λ (bs : List ℕ). Puts a.sink.now b.sink.now bs (Ok tt))
      (ap (λ (ss : List Step). steps_bytes (slip_steps s.clauses (numbered (seen_terms v)) (reverse ss))) (take_all k (taken s.tables.branch) e)
      ∙ ap steps_bytes (sym (lent_steps s g v lent))) p.puts

  module _ (k : ℕ) (l : k < length (taken s.tables.branch)) (x : Step) (is : x ≡ get_or (taken s.tables.branch) k no_step) where
    one_step : reverse (take (k + 1) (taken s.tables.branch)) ≡ x ∷ reverse (take k (taken s.tables.branch))
    one_step =
        let e : k + 1 ≡ suc k = omega arith in
        ap (λ (n : ℕ). reverse (take n (taken s.tables.branch))) e ∙ ap reverse (take-suc (taken s.tables.branch) k no_step l ∙ ap (λ (y : Step). take k (taken s.tables.branch) ++ (y ∷ [])) (sym is))
        ∙ reverse-append (take k (taken s.tables.branch)) (x ∷ [])

    step_next : Next s.clauses s.question.variables s.tables.cells.used x (reverse (take k (taken s.tables.branch)))
    step_next =
        let newer = reverse (drop (k + 1) (taken s.tables.branch)) in
        kept_next s.clauses (text_of s) s.question.variables newer x (reverse (take k (taken s.tables.branch))) s.tables.cells.table s.tables.cells.newest s.tables.cells.used
        (subst (λ (ss : List Step). Kept (text_of s) s.clauses s.question.variables ss s.tables.cells.table s.tables.cells.newest s.tables.cells.used)
        (older_after (taken s.tables.branch) (k + 1) ∙ ap (λ (ss : List Step). newer ++ ss) one_step) g.order.kept)

    pub step_rule : x.rule < length s.clauses
    step_rule = step_next.rule

    pub step_met : {a b : Writer} → Stepped s v k a b → Met v x.level b.numbering
    step_met {a} {b} p = subst (λ (m : ℕ). Met v m b.numbering) (sym step_next.level) p.met

    module _ (c : Clause) (that : c ≡ clause s.clauses x.rule) where
      variables_are : c.variables ≡ (clause s.clauses x.rule).variables
      variables_are = ap (λ (y : Clause). y.variables) that

      pub step_inside : x.level + c.variables ≤ v.used
      step_inside = omega (arith, step_next.inside, variables_are, lent.used)

      -- the bytes of this step
      abbrev own_bytes : List ℕ
      own_bytes = step_bytes (record { rule = x.rule; terms = take c.variables (drop x.level (numbered (seen_terms v))) })

      with_one : first_steps s v (k + 1) ≡ first_steps s v k ++ own_bytes
      with_one =
          let ts = numbered (seen_terms v) in
          ap (λ (ss : List Step). steps_bytes (slip_steps s.clauses ts ss)) one_step
          ∙ one_more s.clauses ts x (reverse (take k (taken s.tables.branch)))
          ∙ ap (λ (m : ℕ). first_steps s v k ++ step_bytes (record { rule = x.rule; terms = take m (drop x.level ts) })) (sym variables_are)

      one_put : {a b : Writer} {t : Sink} {r : Result Unit NoRoom} → Stepped s v k a b → Puts b.sink.now t own_bytes r → Puts a.sink.now t (first_steps s v (k + 1)) r
      one_put {a} {b} {t} {r} p q = subst (λ (bs : List ℕ). Puts a.sink.now t bs r) (sym with_one) (puts_then p.puts q)

      -- one more is,
      pub step_put : {a b u : Writer} {o : Unit} → Stepped s v k a b → u.sink.ghost_name ≡ b.sink.ghost_name → Puts b.sink.now u.sink.now own_bytes (Ok o) → Met v (x.level + c.variables) u.numbering
          → Stepped s v (k + 1) a u
      step_put {a} {b} {u} p e q h =
          record {
            same = e ∙ p.same;
            puts = one_put p q;
            met =
                subst (λ (i : ℕ). Met v i u.numbering)
                (ap (λ (i : ℕ). x.level + i) variables_are ∙ sym (ap (cells_after s.clauses s.question.variables) one_step)) h;
          }

      -- or there is no room for it.
      pub step_over : {a b : Writer} {t : Sink} {n : NoRoom} {r : Result Unit NoRoom} → Stepped s v k a b → Puts b.sink.now t own_bytes (Err n) → IsErr r
          → Puts a.sink.now t (steps_bytes (slip_at s).steps) r
      step_over {a} {b} {t} p q z =
          let ts = numbered (seen_terms v) in
          let e = bytes_older s.clauses ts (reverse (drop (k + 1) (taken s.tables.branch))) (reverse (take (k + 1) (taken s.tables.branch))) in
          refused (λ i. Puts a.sink.now t (steps_bytes (slip_at s).steps) i) z
          (λ m. subst (λ (bs : List ℕ). Puts a.sink.now t bs (Err m))
          (sym (ap steps_bytes (lent_steps s g v lent) ∙ ap (λ (ss : List Step). steps_bytes (slip_steps s.clauses ts ss)) (older_after (taken s.tables.branch) (k + 1)) ∙ e.1))
          (puts_over e.0 (one_put p q)))

-- ── the slip ──

module _ (x : Slip) {a b : Sink} where
  -- There is no room for the answer,
  pub answer_over : {n : NoRoom} {r : Result Unit NoRoom} → Puts a b (answer_bytes x) (Err n) → IsErr r → Puts a b (slip_bytes x) r
  answer_over p z = refused (λ t. Puts a b (slip_bytes x) t) z (λ m. puts_over (steps_bytes x.steps ++ (end_byte ∷ [])) p)

  module _ {o : Unit} (p : Puts a b (answer_bytes x) (Ok o)) {c : Sink} where
    -- or there is none for the steps,
    pub steps_over : {n : NoRoom} {r : Result Unit NoRoom} → Puts b c (steps_bytes x.steps) (Err n) → IsErr r → Puts a c (slip_bytes x) r
    steps_over q z = refused (λ t. Puts a c (slip_bytes x) t) z (λ m. puts_then p (puts_over (end_byte ∷ []) q))

    -- or all of it is put.
    pub slip_put : {i : Unit} {d : Sink} {r : Result Unit NoRoom} → Puts b c (steps_bytes x.steps) (Ok i) → Puts c d (end_byte ∷ []) r → Puts a d (slip_bytes x) r
    slip_put q last = puts_then p (puts_then q last)
