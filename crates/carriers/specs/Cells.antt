-- What a carrier holds. Assumes Bits.
--   Cell        what stands at one place: a zero or a one (bit b), or bad
--   max_cells   the most cells that a carrier can have
--   table f n   the cells that f gives for the places below n, in their order
use Rattle.std.specs.Prelude.{◌≡◌, ℕ, List, map, length}
use Rattle.std.specs.List.{range_with_len}
use Rattle.std.proofs.lemmas.List.FromFn.{length-map-range_with_len}
use Rattle.carriers.specs.declared.bit.Bit.{Bit}

pub data Cell : Type 0 where
  bit : Bit → Cell
  bad : Cell

abbrev pub max_cells : ℕ
max_cells = 300000

unfoldable pub table : (ℕ → Cell) → ℕ → List Cell
table f n = map f (range_with_len 0 n)

-- shown here, since the bounds of the carriers need it
pub table_length : (f : ℕ → Cell) (n : ℕ) → length (table f n) ≡ n
unfolding table
table_length f n = length-map-range_with_len f 0 n
