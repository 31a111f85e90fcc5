use Rattle.machine.proofs.Sinks.{puts_room}
use Rattle.machine.proofs.Numberings.{part_put, part_after}
use Rattle.machine.proofs.view.View.write_counted.Goals as goal

pub write_cells-requires : goal.write_cells-requires
write_cells-requires c = record { inside = c.requires.inside; named = (_, c.requires.met); room = puts_room c.in_ok-put.ensures }

pub returns : goal.returns
returns c =
    let v = c.args.self.now in
    record {
      same = c.write_cells.ensures.same;
      puts = part_put v c.args.from c.args.count c.requires.met c.write_cells.ensures c.requires.inside c.in_ok-put.ensures;
      met = part_after v c.args.from c.args.count c.requires.met c.write_cells.ensures;
    }
