-- What reading cells and fields comes to, in terms of the cells alone. Assumes Reading, Fields, FieldReading.
--   CellAnswers       a place past the end is missing; any other answers as its cell does
--   FieldAnswers      a field reads as v exactly where v fits the width and the cells from the place on are the bits of v
--   FieldRefusals     a field is refused exactly with what its first cell that is missing or bad is refused with
--   Spelt cs at w v   v fits the width w, and the w cells from the place on are its bits
--   Faulty cs at k e   of the cells from a place on, the one at k is refused with e, and each before it is a bit
use Rattle.std.specs.Prelude.{◌≡◌, ℕ, ◌+◌, ◌^◌, ◌<◌, ◌≤◌, List, ◌++◌, length, drop, Ok, Err, slice_index_or}
use Rattle.refusals.specs.declared.cause.Cause.TheVariants.{CellMissing}
use Rattle.refusals.specs.declared.refusal.Refusal.{Refusal}
use Rattle.refusals.specs.Spots.{because}
use Rattle.carriers.specs.declared.bit.Bit.{Bit}
use Rattle.carriers.specs.Cells.{Cell}
use Rattle.carriers.specs.Reading.{answer, cell_at}
use Rattle.carriers.specs.Fields.{bits_of}
use Rattle.carriers.specs.FieldReading.{read_bits}

abbrev pub CellAnswers : Type 0
CellAnswers = (cs : List Cell) (at : ℕ) (d : Cell) → (length cs ≤ at → cell_at cs at ≡ Err (because CellMissing)) × (at < length cs → cell_at cs at ≡ answer (slice_index_or cs at d))

abbrev pub Spelt : List Cell → ℕ → ℕ → ℕ → Type 0
Spelt cs at w v = (v < 2 ^ w) × (drop at cs ≡ bits_of w v ++ drop (at + w) cs)

abbrev pub FieldAnswers : Type 0
FieldAnswers = (cs : List Cell) (at w v : ℕ) → (read_bits cs at w 0 ≡ Ok v → Spelt cs at w v) × (Spelt cs at w v → read_bits cs at w 0 ≡ Ok v)

abbrev pub Faulty : List Cell → ℕ → ℕ → Refusal → Type 0
Faulty cs at k e = (cell_at cs (at + k) ≡ Err e) × ((j : ℕ) → j < k → (b : Bit) × (cell_at cs (at + j) ≡ Ok b))

abbrev pub FieldRefusals : Type 0
FieldRefusals = (cs : List Cell) (at w : ℕ) (e : Refusal) → (read_bits cs at w 0 ≡ Err e → (k : ℕ) × (k < w) × Faulty cs at k e) × ((k : ℕ) → k < w → Faulty cs at k e → read_bits cs at w 0 ≡ Err e)
