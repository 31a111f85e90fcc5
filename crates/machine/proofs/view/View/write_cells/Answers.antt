use Rattle.std.proofs.Common.{◌+◌, refl, arith}
use Rattle.slips.specs.Numberings.{by_first}
use Rattle.bindings.specs.Trails.{trail}
use Rattle.bindings.proofs.Presents.{presents_part, cells_none, cells_more, cells_all}
use Rattle.machine.proofs.Sinks.{puts_room}
use Rattle.machine.proofs.Numberings.{all_as, all_over, all_then, all_none}
use Rattle.machine.proofs.view.View.write_cells.Goals as goal

pub loop-cell-init : goal.loop-cell-init
loop-cell-init c =
    record {
      named = c.requires.named;
      room = c.requires.room;
      leads = λ x r p. all_as _ _ (cells_none (trail c.args.self.now.text.now.bytes c.args.self.now.cells.now c.args.self.now.newest) _ c.args.from c.args.count refl) p;
    }

pub returns-in_err-write_cell : goal.returns-in_err-write_cell
returns-in_err-write_cell c =
    let v = c.args.self.now in
    let L = trail v.text.now.bytes v.cells.now v.newest in
    all_as _ _ (presents_part L v.used c.args.from c.args.count c.requires.inside)
    (c.loop-cell.invariant.leads _ _
    (all_as _ _ (cells_more L (c.args.from + c.args.count) c.loop-cell.cell (omega arith)) (all_over _ c.in_err-write_cell.ensures c.from_residual.ensures.0)))

pub loop-cell-preserved : goal.loop-cell-preserved
loop-cell-preserved c =
    let v = c.args.self.now in
    let L = trail v.text.now.bytes v.cells.now v.newest in
    let n = c.loop-cell.invariant.named in
    record {
      named = (_, c.in_ok-write_cell.ensures.after (by_first n.0) n.1);
      room = puts_room (c.in_ok-write_cell.ensures.puts (by_first n.0) n.1);
      leads = λ x r p. c.loop-cell.invariant.leads x r (all_as _ _ (cells_more L (c.args.from + c.args.count) c.loop-cell.cell (omega arith)) (all_then c.in_ok-write_cell.ensures p));
    }

pub returns : goal.returns
returns c =
    let v = c.args.self.now in
    let L = trail v.text.now.bytes v.cells.now v.newest in
    all_as _ _ (presents_part L v.used c.args.from c.args.count c.requires.inside)
    (c.loop-cell.invariant.leads _ _ (all_none _ (cells_all L (c.args.from + c.args.count) c.loop-cell.cell (omega arith)) c.loop-cell.invariant.room))
