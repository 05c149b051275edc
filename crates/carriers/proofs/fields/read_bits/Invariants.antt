use Rattle.std.proofs.Common.{◌≡◌, ◌+◌, ◌-◌, ◌<◌, ◌≤◌, max}
use Rattle.carriers.specs.Cells.{max_cells}
use Rattle.carriers.specs.FieldReading.{read_bits, low32}
use Rattle.carriers.proofs.fields.read_bits.Given as goal

abbrev pub invariant-loop-i : goal.invariant-loop-i
invariant-loop-i g l =
    let cells = g.R.ReadCarrier.cells in
    record {
      place : l.at + l.i ≤ max l.at max_cells;
      small : l.value < 4294967296;
      left : low32 (read_bits (cells l.carrier) (l.at + l.i) (l.width - l.i) l.value) ≡ low32 (read_bits (cells l.carrier) l.at l.width 0);
    }
