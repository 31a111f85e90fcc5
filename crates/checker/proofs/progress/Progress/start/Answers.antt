use Rattle.std.proofs.Common.{◌≡◌, ℕ, [], ◌∷◌, ◌++◌, List, length, Ok, ap, ◌∙◌, subst, arith, length-append}
use Rattle.terms.specs.Terms.{Term}
use Rattle.slips.specs.Checker.{terms_at}
use Rattle.comparing.specs.Cursors.{Listed}
use Rattle.comparing.specs.Runs.{at_query}
use Rattle.checker.proofs.progress.Progress.start.Goals as goal

pub returns-clause-begun : goal.returns-clause-begun
returns-clause-begun c =
    let slip = c.args.slip.now in
    let table = ap (λ t. t.table) c.requires.fresh in
    let frames = ap (λ t. t.frames) c.requires.fresh in
    let steps = ap (λ t. t.steps) c.requires.fresh in
    let added = c.in_ok-self.ensures.added in
    let one : c.push.new.self.items ≡ at_query ∷ [] = c.push.ensures.items ∙ ap (λ fs. fs ++ at_query ∷ []) frames in
    record {
      sized =
          record {
            few_terms = omega (arith, ap length added.together, length-append c.args.self.now.table.items added.more, added.count, ap length table, c.requires.few);
            few_frames = omega (arith, ap length one);
            few_steps = omega (arith, steps);
          };
      listed =
          subst (λ n. (ts : List Term) (q : ℕ) → terms_at c.args.variables 2 slip ≡ Ok (ts, q) → Listed slip c.read_terms.new.table.items n ts) (ap length table) c.in_ok-self.ensures.listed;
      one_frame = one;
      no_step = steps;
    }
