use Rattle.std.proofs.Common.{◌≡◌, ◌+◌, ◌≤◌, length, Ok, ◌∙◌, arith}
use Rattle.carriers.specs.Cells.{max_cells}
use Rattle.carriers.specs.Reading.{cell_at}
use Rattle.carriers.proofs.BitValues.{value_below}
use Rattle.carriers.proofs.FieldCells.{cell_within, low_more, cell_answers, field_answers, field_refusals}
use Rattle.carriers.proofs.fields.read_bits.Goals as goal

pub returns-in_err-cell-clause-cell : goal.returns-in_err-cell-clause-cell
returns-in_err-cell-clause-cell g c = cell_answers

pub returns-in_err-cell-clause-field : goal.returns-in_err-cell-clause-field
returns-in_err-cell-clause-field g c = field_answers

pub returns-in_err-cell-clause-refused : goal.returns-in_err-cell-clause-refused
returns-in_err-cell-clause-refused g c = field_refusals

pub loop-i-preserved : goal.loop-i-preserved
loop-i-preserved g c =
    let cs = g.R.ReadCarrier.cells c.args.carrier.now in
    let here : Ok c.in_ok-cell.field-0 ≡ cell_at cs (c.args.at + c.loop-i.i) = c.in_ok-cell.ensures in
    let below = value_below c.in_ok-cell.field-0 in
    let within = cell_within cs _ _ here in
    let bound : length cs ≤ max_cells = g.R.ReadCarrier.bounded c.args.carrier.now in
    record {
      place = omega arith;
      small = rw c.from.ensures (omega arith);
      left = rw c.from.ensures (low_more cs _ _ _ _ c.loop-i.value _ (omega arith) (omega arith) here ∙ c.loop-i.invariant.left);
    }

pub returns-clause-cell : goal.returns-clause-cell
returns-clause-cell g c = cell_answers

pub returns-clause-field : goal.returns-clause-field
returns-clause-field g c = field_answers

pub returns-clause-refused : goal.returns-clause-refused
returns-clause-refused g c = field_refusals
