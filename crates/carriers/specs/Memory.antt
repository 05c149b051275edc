-- The cells of memory of any unit: an octet or a word. Assumes Cells.
--   room_of n us         the cells that the units us count for, where a unit holds n cells
--   reader_cells n g r   the cells of a reader, where g gives the cell at a place of the units
--   writer_cells g w     the cells of a writer
--   writer_room n w      its capacity
use Rattle.std.specs.Prelude.{ℕ, ◌*◌, ◌≤◌, min, List, length}
use Rattle.std.proofs.Common.{arith}
use Rattle.carriers.specs.declared.memory.Reader.{Reader}
use Rattle.carriers.specs.declared.memory.Writer.{Writer}
use Rattle.carriers.specs.Cells.{Cell, max_cells, table, table_length}

abbrev pub room_of : {U : Type 0} → ℕ → List U → ℕ
room_of n us = min max_cells (n * length us)

abbrev pub reader_cells : {U : Type 0} → ℕ → (List U → ℕ → Cell) → Reader U → List Cell
reader_cells n g r = table (g r.memory.now) (room_of n r.memory.now)

abbrev pub writer_cells : {U : Type 0} {m : _} → (List U → ℕ → Cell) → Writer U m → List Cell
writer_cells g w = table (g w.memory.now) w.used

abbrev pub writer_room : {U : Type 0} {m : _} → ℕ → Writer U m → ℕ
writer_room n w = room_of n w.memory.now

-- the bounds that the traits ask for
pub reader_bounded : {U : Type 0} (n : ℕ) (g : List U → ℕ → Cell) (r : Reader U) → length (reader_cells n g r) ≤ max_cells
reader_bounded n g r = simp table_length (omega arith)

pub writer_bounded : {U : Type 0} {m : _} (g : List U → ℕ → Cell) (w : Writer U m) → length (writer_cells g w) ≤ max_cells
writer_bounded g w = simp table_length (omega arith)

pub writer_roomy : {U : Type 0} {m : _} (n : ℕ) (w : Writer U m) → writer_room n w ≤ max_cells
writer_roomy n w = omega arith
