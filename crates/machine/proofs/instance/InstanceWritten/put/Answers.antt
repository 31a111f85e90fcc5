use Rattle.std.proofs.Common.{rules}
use Rattle.slips.specs.Numberings.{own}
use Rattle.bindings.proofs.Checks.{true_stands}
use Rattle.machine.proofs.instance.InstanceWritten.put.Goals as goal

pub write-requires-clause-stands : goal.write-requires-clause-stands
write-requires-clause-stands c = true_stands c.args.self.now.stands

pub returns : goal.returns
returns c = let p = c.write.ensures.puts own (c.by_cell.ensures _ c.args.self.now.few) in let s = c.write.ensures.same in search rules
