use Rattle.std.proofs.Common.{◌≡◌, true, false, sym, ap, ◌∙◌, rules, true≢false}
use Rattle.bindings.specs.Trails.{Since}
use Rattle.bindings.proofs.Links.{sound_mark}
use Rattle.bindings.proofs.Endings.{failed_ends}
use Rattle.machine.specs.declared.guard.Guard.{Guard}
use Rattle.machine.proofs.attempt.join.Goals as goal
use Rattle.machine.proofs.attempt.join.Goals.{then-joined, else-joined}

since : (c : goal.Joined-joined) → Since c.args.cells.now c.if-joined.guard.mark c.if-joined.guard.cells.now c.if-joined.guard.newest
since c =
    let s = c.unify-joined.ensures.only.since c.args.cells.now _ (sound_mark c.requires.sound) in
    elim c.if-joined.branch [
      | then-joined w ↦ simp (w.guard-is, w.keep.ensures.mark, w.keep.ensures.cells, w.keep.ensures.newest, c.unify-joined.ensures.only.mark) s
      | else-joined w ↦ simp (w.guard-is, c.unify-joined.ensures.only.mark) s
    ]

pub drop-guard-requires : goal.drop-guard-requires
drop-guard-requires c = (c.args.cells.now, since c)

pub returns : goal.returns
returns c =
    elim c.if-joined.branch [
      | then-joined w ↦
          let k : c.if-joined.guard.keep ≡ true = ap (λ (g : Guard). g.keep) w.guard-is ∙ w.keep.ensures.keep in
          let e : c.drop-guard.new.self.0 ≡ c.if-joined.guard.cells.now = c.drop-guard.ensures.kept k in
          record {
            cells = λ f. absurd (true≢false (sym w.if-joined.true ∙ f));
            newest = λ f. absurd (true≢false (sym w.if-joined.true ∙ f));
            since = λ _ was m s. let p : Since was m c.unify-joined.new.self.cells.now c.unify-joined.new.self.newest = c.unify-joined.ensures.only.since was m s in search rules;
            ends = let p = c.unify-joined.ensures.ends in search rules;
          }
      | else-joined w ↦
          let k : c.if-joined.guard.keep ≡ false = ap (λ (g : Guard). g.keep) w.guard-is ∙ c.unify-joined.ensures.only.keep in
          let e : c.drop-guard.new.self.0 ≡ c.args.cells.now =
          c.drop-guard.ensures.undone k _ (simp (w.guard-is, c.unify-joined.ensures.only.mark) (c.unify-joined.ensures.only.since c.args.cells.now _ (sound_mark c.requires.sound))) in
          record {
            cells = λ _. search rules;
            newest = λ _. w.newest-is;
            since = λ t. absurd (true≢false (sym t ∙ w.if-joined.false));
            ends = failed_ends _ c.unify-joined.ensures.ends w.if-joined.false;
          }
    ]
