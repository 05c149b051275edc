-- Eight cells to an octet, most significant first, none bad. Assumes Cells.
--   octet_at os i                   the cell at place i of the octets os: the bit of weight 2^(7 - i % 8) of octet i / 8
--   octet_room os                   the cells that the octets os count for
--   octet_reader_cells r            the cells of an octet reader
--   octet_writer_cells w            the cells of an octet writer
--   octet_writer_room w             its capacity
--   OctetsPut before at b r after   what putting the bit b at a place, answered r, leaves of the octets: that place alone is changed
use Rattle.std.specs.Prelude.{◌≡◌, ℕ, ◌-◌, ◌*◌, ◌/◌, ◌%◌, ◌^◌, min, ◌≢◌, List, length, Ok, Err, Result, slice_index}
use Rattle.refusals.specs.declared.refusal.Refusal.{Refusal}
use Rattle.carriers.specs.declared.bit.Bit.{Bit}
use Rattle.carriers.specs.declared.memory.Reader.{Reader}
use Rattle.carriers.specs.declared.memory.Writer.{Writer}
use Rattle.carriers.specs.Bits.{bit_of}
use Rattle.carriers.specs.Cells.{Cell, bit, max_cells, table}

abbrev pub octet_at : List ℕ → ℕ → Cell
octet_at os i = bit (bit_of (slice_index os (i / 8) / 2 ^ (7 - i % 8)))

abbrev pub octet_room : List ℕ → ℕ
octet_room os = min max_cells (8 * length os)

abbrev pub octet_reader_cells : Reader ℕ → List Cell
octet_reader_cells r = table (octet_at r.memory.now) (octet_room r.memory.now)

abbrev pub octet_writer_cells : {m : _} → Writer ℕ m → List Cell
octet_writer_cells w = table (octet_at w.memory.now) w.used

abbrev pub octet_writer_room : {m : _} → Writer ℕ m → ℕ
octet_writer_room w = octet_room w.memory.now

abbrev pub OctetsPut : List ℕ → ℕ → Bit → Result Unit Refusal → List ℕ → Type 0
OctetsPut before at b (Ok _) after = (length after ≡ length before) × (octet_at after at ≡ bit b) × ((i : ℕ) → i ≢ at → octet_at after i ≡ octet_at before i)
OctetsPut before at b (Err _) after = after ≡ before
