use Rattle.std.proofs.Common.{arith, rules}
use Rattle.machine.specs.Machines.{state}
use Rattle.machine.proofs.States.{true_good, cells_room}
use Rattle.machine.proofs.Writings.{lent_query, lent_answer, answer_over, steps_over, slip_put}
use Rattle.machine.specs.Writings.{slip_at}
use Rattle.machine.proofs.writing.SlipOfWritten.put.Goals as goal

pub write_answer-requires-clause-inside : goal.write_answer-requires-clause-inside
write_answer-requires-clause-inside c =
    let s = state c.args.self.now.machine.now in lent_query s (true_good s c.args.self.now.machine.now.kept) c.view-view.result c.view-view.ensures

pub write_answer-requires-clause-met : goal.write_answer-requires-clause-met
write_answer-requires-clause-met c =
    let s = state c.args.self.now.machine.now in
    c.by_first.ensures c.view-view.result.used (omega (arith, cells_room s (true_good s c.args.self.now.machine.now.kept), c.view-view.ensures.used))

pub returns-in_err-write_answer : goal.returns-in_err-write_answer
returns-in_err-write_answer c =
    let s = state c.args.self.now.machine.now in
    let p = lent_answer s (true_good s c.args.self.now.machine.now.kept) c.view-view.result c.view-view.ensures c.in_err-write_answer.ensures.puts in
    let q = answer_over (slip_at s) p c.from_residual.ensures.0 in
    let e = c.write_answer.ensures.same in search rules

pub returns-in_err-put_steps : goal.returns-in_err-put_steps
returns-in_err-put_steps c =
    let s = state c.args.self.now.machine.now in
    let p = lent_answer s (true_good s c.args.self.now.machine.now.kept) c.view-view.result c.view-view.ensures c.in_ok-write_answer.ensures.puts in
    let q = steps_over (slip_at s) p c.in_err-put_steps.ensures.puts c.from_residual-in_err-put_steps.ensures.0 in
    let e = c.write_answer.ensures.same in
    let f = c.put_steps.ensures.same in search rules

pub returns : goal.returns
returns c =
    let s = state c.args.self.now.machine.now in
    let p = lent_answer s (true_good s c.args.self.now.machine.now.kept) c.view-view.result c.view-view.ensures c.in_ok-write_answer.ensures.puts in
    let q = slip_put (slip_at s) p c.in_ok-put_steps.ensures.puts c.put.ensures in
    let e = c.write_answer.ensures.same in
    let f = c.put_steps.ensures.same in search rules
