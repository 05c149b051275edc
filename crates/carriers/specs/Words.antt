-- One cell to a 16-bit word, as soft bits are written. Assumes Cells.
--   word_cell x                    the cell that the word x stands for: 0x007F a zero, 0x0081 a one, any other bad
--   word_of b                      the word that stands for the bit b
--   word_at ws i                   the cell at place i of the words ws
--   word_room ws                   the cells that the words ws count for
--   word_reader_cells r            the cells of a word reader
--   word_writer_cells w            the cells of a word writer
--   word_writer_room w             its capacity
--   WordsPut before at b r after   what putting the bit b at a place, answered r, leaves of the words: that word alone is changed
use Rattle.std.specs.Prelude.{◌≡◌, ℕ, min, cond, List, length, Ok, Err, Result, ◌==◌, slice_index, slice_set}
use Rattle.refusals.specs.declared.refusal.Refusal.{Refusal}
use Rattle.carriers.specs.declared.bit.Bit.{Bit}
use Rattle.carriers.specs.declared.bit.Bit.TheVariants.{Zero, One}
use Rattle.carriers.specs.declared.memory.Reader.{Reader}
use Rattle.carriers.specs.declared.memory.Writer.{Writer}
use Rattle.carriers.specs.Cells.{Cell, bit, bad, max_cells, table}

abbrev pub word_cell : ℕ → Cell
word_cell x = cond (x == 0x7F) (bit Zero) (cond (x == 0x81) (bit One) bad)

abbrev pub word_of : Bit → ℕ
word_of Zero = 0x7F
word_of One = 0x81

abbrev pub word_at : List ℕ → ℕ → Cell
word_at ws i = word_cell (slice_index ws i)

abbrev pub word_room : List ℕ → ℕ
word_room ws = min max_cells (length ws)

abbrev pub word_reader_cells : Reader ℕ → List Cell
word_reader_cells r = table (word_at r.memory.now) (word_room r.memory.now)

abbrev pub word_writer_cells : {m : _} → Writer ℕ m → List Cell
word_writer_cells w = table (word_at w.memory.now) w.used

abbrev pub word_writer_room : {m : _} → Writer ℕ m → ℕ
word_writer_room w = word_room w.memory.now

abbrev pub WordsPut : List ℕ → ℕ → Bit → Result Unit Refusal → List ℕ → Type 0
WordsPut before at b (Ok _) after = after ≡ slice_set before at (word_of b)
WordsPut before at b (Err _) after = after ≡ before
