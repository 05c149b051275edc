use Rattle.std.proofs.Common.{◌≡◌, ◌*◌, take}
use Rattle.carriers.specs.Cells.{table}
use Rattle.carriers.specs.Octets.{octet_at}
use Rattle.carriers.specs.Copying.{padded}
use Rattle.carriers.proofs.copying.copy_octets.Given as goal

abbrev pub invariant-loop-i : goal.invariant-loop-i
invariant-loop-i g l =
    let cs = g.R.ReadCarrier.cells l.carrier in
    table (octet_at l.octet-items) (8 * l.i) ≡ take (8 * l.i) (padded cs)
