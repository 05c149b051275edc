-- What reading one cell answers. Assumes Cells.
--   answer x       what a cell x that is there answers
--   cell_at cs i   what reading place i of the cells cs answers
use Rattle.std.specs.Prelude.{ℕ, zero, suc, List, [], ◌∷◌, Ok, Err, Result}
use Rattle.refusals.specs.declared.cause.Cause.TheVariants.{CellMissing, BadCell}
use Rattle.refusals.specs.declared.refusal.Refusal.{Refusal}
use Rattle.refusals.specs.Spots.{because}
use Rattle.carriers.specs.declared.bit.Bit.{Bit}
use Rattle.carriers.specs.Cells.{Cell, bit, bad}

abbrev pub answer : Cell → Result Bit Refusal
answer (bit b) = Ok b
answer bad = Err (because BadCell)

abbrev pub cell_at : List Cell → ℕ → Result Bit Refusal
cell_at [] i = Err (because CellMissing)
cell_at (x ∷ xs) zero = answer x
cell_at (x ∷ xs) (suc i) = cell_at xs i
