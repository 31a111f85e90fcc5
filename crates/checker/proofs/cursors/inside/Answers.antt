use Rattle.std.proofs.Common.{◌≡◌, ◌+◌, drop, ltb, Some, Ok, IsOk, sym, refl, ap, ◌∙◌, subst, ap₂, arith}
use Rattle.std.specs.Bool.{then_some}
use Rattle.std.specs.Option.{IsSome}
use Rattle.terms.specs.declared.Form.TheVariants.{Slips}
use Rattle.reading.specs.Taking.{first_command, size, taken_size}
use Rattle.comparing.specs.Cursors.{Went}
use Rattle.comparing.proofs.Fronts.{front_there, went_on}
use Rattle.checker.proofs.cursors.inside.Goals as goal
use Rattle.checker.proofs.cursors.inside.Goals.{After-command}

-- what the reader read
read : (c : After-command) → c.command.result ≡ first_command Slips c.args.at.place (drop c.args.at.place c.args.slip.now)
read c = c.command.ensures.value ∙ ap₂ (first_command Slips) c.from_place-reader.ensures.place c.from_place-reader.ensures.bytes

pub unwrap-requires : goal.unwrap-requires
unwrap-requires c = subst IsOk (sym (read c ∙ (front_there c.args.slip.now c.args.at c.requires).1)) refl

pub unwrap-command-requires : goal.unwrap-command-requires
unwrap-command-requires c =
    let k = (front_there c.args.slip.now c.args.at c.requires).1 in
    let r = read (goal.at.unwrap-command-requires c).After-command in
    let same : c.unwrap.result ≡ Some (front_there c.args.slip.now c.args.at c.requires).0 = cc in
    subst IsSome (sym same) refl

pub due_after-due-requires-clause-room : goal.due_after-due-requires-clause-room
due_after-due-requires-clause-room c = let k = front_there c.args.slip.now c.args.at c.requires in omega arith

pub returns-clause-went : goal.returns-clause-went
returns-clause-went c = λ ts s.
    let slip = c.args.slip.now in
    let at = c.args.at in
    let command = c.unwrap-command.result in
    let found : c.command.result ≡ Ok (Some command) = c.unwrap.ensures ∙ ap Ok c.unwrap-command.ensures in
    let place : c.place.result ≡ at.place + size Slips command =
    c.place.ensures ∙ c.command.ensures.place ∙ ap₂ (λ p r. p + taken_size Slips r) c.from_place-reader.ensures.place found in
    let left = c.then_some.ensures ∙ ap (λ n. then_some (ltb 0 n) (record { place = c.place.result; due = n })) c.due_after-due.ensures in
    subst (λ o. Went slip command o ts) (sym left) (went_on slip at command c.place.result (sym found ∙ read (goal.at.returns-clause-went c).After-command) place ts s)
