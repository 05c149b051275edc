use Rattle.std.proofs.Common.{◌≡◌, drop}
use Rattle.carriers.specs.Copying.{all_bits}
use Rattle.carriers.proofs.copying.check_cells.Given as goal

abbrev pub invariant-loop-at : goal.invariant-loop-at
invariant-loop-at g l =
    let cs = g.R.ReadCarrier.cells l.carrier in
    all_bits (drop l.at cs) ≡ all_bits cs
