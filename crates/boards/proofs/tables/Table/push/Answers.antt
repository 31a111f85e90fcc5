use Rattle.std.proofs.Common.{◌≡◌, ℕ, ◌+◌, ◌<◌, ◌≤◌, true, false, [], ◌∷◌, ◌++◌, length, Ok, Err, is_ok, OnOk, OnErr, Result, ◌≢◌, ◌==◌, sym, ap, ◌∙◌, subst, ⊎_elim, arith}
use Rattle.std.proofs.lemmas.Bool.{cases_lt, eqb-true, eqb-false}
use Rattle.boards.specs.declared.faults.AddFault.TheVariants.{Full, Large}
use Rattle.boards.specs.Changes.{pushed}
use Rattle.boards.specs.Tables.{cut, Held}
use Rattle.boards.proofs.Changes.{Comes, is_full, is_large, put_up}
use Rattle.boards.proofs.Laid.{cut_held, held_again, count_held, size_held, push_held}
use Rattle.boards.proofs.tables.Table.push.Goals as goal
use Rattle.boards.proofs.tables.Table.push.Goals.{Then-is_full, Then-is_err, After-push}

full : (c : Then-is_full) → Comes (pushed c.args.self.now c.args.text.now) c.args.self.now (Err Full) c.args.self.now
full c =
    let t = c.self.inside in
    let h = subst (Held t.ends.items t.bytes.items) c.self.view_is c.self.invariant in
    let all : length t.ends.items ≡ 128 = eqb-true (length t.ends.items) 128 (sym c.if-is_full.ensures.value) in
    is_full c.args.self.now c.args.text.now (omega (arith, count_held t.ends.items t.bytes.items c.args.self.now h, all))

pub returns-then-is_full-clause-value : goal.returns-then-is_full-clause-value
returns-then-is_full-clause-value c = (full c).value

pub returns-then-is_full-clause-after : goal.returns-then-is_full-clause-after
returns-then-is_full-clause-after c = (full c).after_it

-- there is a place for one more end
few : (n : ℕ) → n ≤ 128 → false ≡ (n == 128) → n < 128
few n l e = let other : n ≢ 128 = eqb-false n 128 (sym e) in omega arith

-- there is no room for the bytes
no_room : {X E : Type 0} (r : Result X E) (n : ℕ) → (n ≤ 8192 → is_ok r ≡ true) → is_ok r ≡ false → 8192 < n
no_room r n f e = ⊎_elim (λ l. l) (λ l. let two = sym (f l) ∙ e in let z : ◌≡◌ {A = ℕ} 0 1 = cc in absurd (omega arith)) (cases_lt 8192 n)

at_ok : {X E P : Type 0} (r : Result X E) → is_ok r ≡ true → OnOk r P → P
at_ok (Ok x) e h = h
at_ok (Err x) e h = let z : ◌≡◌ {A = ℕ} 0 1 = cc in absurd (omega arith)

at_err : {X E P : Type 0} (r : Result X E) → is_ok r ≡ false → OnErr r P → P
at_err (Ok x) e h = let z : ◌≡◌ {A = ℕ} 0 1 = cc in absurd (omega arith)
at_err (Err x) e h = h

large : (c : Then-is_err) → Comes (pushed c.args.self.now c.args.text.now) c.args.self.now (Err Large) c.args.self.now
large c =
    let t = c.self.inside in
    let h = subst (Held t.ends.items t.bytes.items) c.self.view_is c.self.invariant in
    let free = few (length t.ends.items) c.is_full.ensures.fits c.if-is_full.ensures.value in
    let more = no_room c.try_extend_from_slice.result (length t.bytes.items + length c.args.text.now) c.try_extend_from_slice.ensures.variant.1 c.if-is_err.ensures.negation in
    is_large c.args.self.now c.args.text.now
    (omega (arith, count_held t.ends.items t.bytes.items c.args.self.now h, free))
    (omega (arith, size_held t.ends.items t.bytes.items c.args.self.now h, more))

pub returns-then-is_err-clause-value : goal.returns-then-is_err-clause-value
returns-then-is_err-clause-value c = (large c).value

pub returns-then-is_err-clause-after : goal.returns-then-is_err-clause-after
returns-then-is_err-clause-after c =
    ap (λ b. cut 0 c.self.inside.ends.items b.items) (at_err c.try_extend_from_slice.result c.if-is_err.ensures.negation c.try_extend_from_slice.ensures.err)
    ∙ c.self.view_is ∙ (large c).after_it

-- the rule is laid, and its end
laid : (c : After-push) → Held c.push.new.self.items c.try_extend_from_slice.new.self.items (c.args.self.now ++ c.args.text.now ∷ [])
laid c =
    let t = c.self.inside in
    let h = subst (Held t.ends.items t.bytes.items) c.self.view_is c.self.invariant in
    push_held t.ends.items t.bytes.items c.args.self.now h c.args.text.now c.push.new.self.items c.try_extend_from_slice.new.self.items
    (at_ok c.try_extend_from_slice.result c.if-is_err.ensures.negation c.try_extend_from_slice.ensures.ok)
    (c.push.ensures.items ∙ ap (λ n. t.ends.items ++ n ∷ []) c.len.ensures.value)

put : (c : After-push) → Comes (pushed c.args.self.now c.args.text.now) c.args.self.now (Ok tt) (c.args.self.now ++ c.args.text.now ∷ [])
put c =
    let t = c.self.inside in
    let h = subst (Held t.ends.items t.bytes.items) c.self.view_is c.self.invariant in
    let free = few (length t.ends.items) c.is_full.ensures.fits c.if-is_full.ensures.value in
    let long = at_ok c.try_extend_from_slice.result c.if-is_err.ensures.negation c.try_extend_from_slice.ensures.len in
    put_up c.args.self.now c.args.text.now
    (omega (arith, count_held t.ends.items t.bytes.items c.args.self.now h, free))
    (omega (arith, size_held t.ends.items t.bytes.items c.args.self.now h, long, c.len.ensures.value, c.len.ensures.fits))

pub invariant_of-self-2 : goal.invariant_of-self-2
invariant_of-self-2 c = held_again c.push.new.self.items c.try_extend_from_slice.new.self.items _ (laid (goal.at.invariant_of-self-2 c).After-push)

pub returns-clause-value : goal.returns-clause-value
returns-clause-value c = (put (goal.at.returns-clause-value c).After-push).value

pub returns-clause-after : goal.returns-clause-after
returns-clause-after c =
    cut_held c.push.new.self.items c.try_extend_from_slice.new.self.items _ (laid (goal.at.returns-clause-after c).After-push)
    ∙ (put (goal.at.returns-clause-after c).After-push).after_it
