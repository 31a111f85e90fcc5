use Rattle.std.proofs.Common.{◌≡◌, suc, ◌-◌, ◌<◌, ◌∷◌, ◌++◌, length, get_or, take, drop, Some, Err, OnSome, IfNone, ok_or, lit<, sym, ap, ◌∙◌, subst, arith}
use Rattle.std.proofs.lemmas.Result.{err_from_is_err_and}
use borrow.Rule.Slice.PartMut.{put_mid}
use Rattle.std.proofs.lemmas.Option.{slice_get_within, get_or_from_slice_get}
use Rattle.std.specs.List.{slice_get, remove, refill}
use Rattle.boards.specs.declared.faults.RemoveFault.TheVariants.{Missing}
use Rattle.boards.specs.Changes.{removed}
use Rattle.boards.specs.Tables.{cut, Held}
use Rattle.boards.proofs.Changes.{Comes, is_missing, taken_down}
use Rattle.boards.proofs.Laid.{cut_held, held_again, count_held, Between, stands, later_held, remove_held}
use Rattle.stores.proofs.Shelved.{past_end}
use Rattle.boards.proofs.tables.Table.remove.Goals as goal
use Rattle.boards.proofs.tables.Table.remove.Goals.{After-from_residual, After-begin-begin, After-lower}

missing : (c : After-from_residual) → Comes (removed c.args.self.now c.args.rule) c.args.self.now c.from_residual.result c.args.self.now
missing c =
    let t = c.self.inside in
    let h = subst (Held t.ends.items t.bytes.items) c.self.view_is c.self.invariant in
    let p = err_from_is_err_and c.from_residual.result c.from_residual.ensures.1 in
    let k = is_missing c.args.self.now c.args.rule
    (omega (arith, count_held t.ends.items t.bytes.items c.args.self.now h, past_end t.ends.items c.args.rule (sym c.in_err-end.ensures.ok_part ∙ c.pop_at.ensures.value))) in
    let refusal = c.in_err-end.ensures.value ∙ ap (λ o. ok_or o Missing) c.in_err-end.ensures.ok_part in
    let same : c.in_err-end.field-0.0 ≡ Missing = cc in
    subst (λ r. Comes (removed c.args.self.now c.args.rule) c.args.self.now r c.args.self.now) (sym (p.1 ∙ ap Err (p.2 ∙ same))) k

pub returns-in_err-end-clause-value : goal.returns-in_err-end-clause-value
returns-in_err-end-clause-value c = (missing c).value

pub returns-in_err-end-clause-after : goal.returns-in_err-end-clause-after
returns-in_err-end-clause-after c =
    let same = subst (λ o. IfNone o (c.pop_at.new.self ≡ c.self.inside.ends)) c.in_err-end.ensures.ok_part c.pop_at.ensures.absent in
    ap (λ e. cut 0 e.items c.self.inside.bytes.items) same ∙ c.self.view_is ∙ (missing (goal.at.returns-in_err-end-clause-after c).After-from_residual).after_it

-- the rule is there
module _ (c : After-begin-begin) where
  held : Held c.self.inside.ends.items c.self.inside.bytes.items c.args.self.now
  held = subst (Held c.self.inside.ends.items c.self.inside.bytes.items) c.self.view_is c.self.invariant

  read : slice_get c.self.inside.ends.items c.args.rule ≡ Some c.in_ok-end.end
  read = sym c.pop_at.ensures.value ∙ c.in_ok-end.ensures.ok_part

  there : c.args.rule < length c.args.self.now
  there = omega (arith, slice_get_within c.self.inside.ends.items c.args.rule c.in_ok-end.end read, count_held c.self.inside.ends.items c.self.inside.bytes.items c.args.self.now held)

  end : c.in_ok-end.end ≡ get_or c.self.inside.ends.items c.args.rule 0
  end = sym (get_or_from_slice_get c.self.inside.ends.items c.args.rule c.in_ok-end.end 0 read)

  out : c.pop_at.new.self.items ≡ remove c.self.inside.ends.items c.args.rule
  out = subst (λ o. OnSome o (c.pop_at.new.self.items ≡ remove c.self.inside.ends.items c.args.rule)) c.in_ok-end.ensures.ok_part c.pop_at.ensures.items

  begin : c.begin-begin.result ≡ get_or (0 ∷ remove c.self.inside.ends.items c.args.rule) c.args.rule 0
  begin = c.begin-begin.ensures ∙ ap (λ l. get_or (0 ∷ l) c.args.rule 0) (c.as_slice.ensures.value ∙ out)

  it : Between c.self.inside.ends.items c.self.inside.bytes.items c.args.self.now held c.args.rule there c.begin-begin.result c.in_ok-end.end
  it = stands c.self.inside.ends.items c.self.inside.bytes.items c.args.self.now held c.args.rule there c.begin-begin.result c.in_ok-end.end begin end

pub drain-requires : goal.drain-requires
drain-requires c =
    let s = it (goal.at.drain-requires c).After-begin-begin in
    (lit< tt, (lit< tt, (tt, (omega (arith, s.size), s.inside))))

pub overflow_sub-end : goal.overflow_sub-end
overflow_sub-end c = let s = it (goal.at.overflow_sub-end c).After-begin-begin in omega (arith, s.size)

pub lower-requires : goal.lower-requires
lower-requires c =
    let a = (goal.at.lower-requires c).After-begin-begin in
    later_held c.self.inside.ends.items c.self.inside.bytes.items c.args.self.now (held a) c.args.rule (there a) c.begin-begin.result c.in_ok-end.end (begin a) (end a)
    c.as_mut_slice.result.now (c.as_mut_slice.ensures.value ∙ out a)

-- the rule is out
gone : (c : After-lower)
    → Held (refill (length c.pop_at.new.self.items) c.pop_at.new.self.items (put_mid c.args.rule (length c.as_mut_slice.result.now - c.args.rule) c.as_mut_slice.result.now c.lower.new.ends))
    c.drop-drain.new.self.0.items (take c.args.rule c.args.self.now ++ drop (suc c.args.rule) c.args.self.now)
gone c =
    let a = (goal.at.After-lower c).After-begin-begin in
    remove_held c.self.inside.ends.items c.self.inside.bytes.items c.args.self.now (held a) c.args.rule (there a) c.begin-begin.result c.in_ok-end.end (begin a) (end a)
    c.pop_at.new.self.items c.as_mut_slice.result.now c.lower.new.ends c.drop-drain.new.self.0.items (out a) c.as_mut_slice.ensures.value c.lower.ensures
    (c.drop-drain.ensures (lit< tt) ∙ c.drain.ensures.kept)

pub invariant_of-self-2 : goal.invariant_of-self-2
invariant_of-self-2 c = held_again _ _ _ (gone (goal.at.invariant_of-self-2 c).After-lower)

pub returns-clause-value : goal.returns-clause-value
returns-clause-value c = (taken_down c.args.self.now c.args.rule (there (goal.at.returns-clause-value c).After-begin-begin)).value

pub returns-clause-after : goal.returns-clause-after
returns-clause-after c =
    cut_held _ _ _ (gone (goal.at.returns-clause-after c).After-lower)
    ∙ (taken_down c.args.self.now c.args.rule (there (goal.at.returns-clause-after c).After-begin-begin)).after_it
