use Rattle.std.proofs.Common.{arith, rules}
use Rattle.machine.specs.Machines.{state}
use Rattle.machine.proofs.States.{true_good, cells_room}
use Rattle.machine.proofs.Writings.{lent_query, lent_answer}
use Rattle.machine.proofs.writing.AnswerOfWritten.put.Goals as goal

pub write_answer-requires-clause-inside : goal.write_answer-requires-clause-inside
write_answer-requires-clause-inside c =
    let s = state c.args.self.now.machine.now in lent_query s (true_good s c.args.self.now.machine.now.kept) c.view.result c.view.ensures

pub write_answer-requires-clause-met : goal.write_answer-requires-clause-met
write_answer-requires-clause-met c =
    let s = state c.args.self.now.machine.now in
    c.by_first.ensures c.view.result.used (omega (arith, cells_room s (true_good s c.args.self.now.machine.now.kept), c.view.ensures.used))

pub returns : goal.returns
returns c =
    let s = state c.args.self.now.machine.now in
    let p = lent_answer s (true_good s c.args.self.now.machine.now.kept) c.view.result c.view.ensures c.write_answer.ensures.puts in
    let e = c.write_answer.ensures.same in search rules
