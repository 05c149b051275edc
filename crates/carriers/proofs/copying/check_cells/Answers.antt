use Rattle.std.proofs.Common.{sym, ◌∙◌}
use Rattle.carriers.proofs.Checks.{check_more}
use Rattle.carriers.proofs.copying.check_cells.Goals as goal

pub loop-at-preserved : goal.loop-at-preserved
loop-at-preserved g c =
    let cs = g.R.ReadCarrier.cells c.args.carrier.now in
    sym (check_more cs c.loop-at.at _ c.in_ok-cell.ensures) ∙ c.loop-at.invariant
