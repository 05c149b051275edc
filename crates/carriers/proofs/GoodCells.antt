-- Which cells answer with a bit: the one place that looks at a bad cell by its kind. Assumes nothing.
use Rattle.std.proofs.Common.{◌≡◌, ℕ, Ok, ap, arith}
use Rattle.carriers.specs.declared.bit.Bit.{Bit}
use Rattle.carriers.specs.Cells.{Cell, bit, bad}
use Rattle.carriers.specs.Reading.{answer}

pub good_cell : (x : Cell) (b : Bit) → answer x ≡ Ok b → x ≡ bit b
good_cell (bit d) b e = let z : d ≡ b = cc in ap bit z
good_cell bad b e = let z : ◌≡◌ {A = ℕ} 0 1 = cc in absurd (omega arith)
