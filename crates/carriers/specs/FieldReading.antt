-- A row of cells as a number, most significant first. Assumes Reading.
--   and_then r f          what f makes of the answer r; a refusal stays
--   read_bits cs at w a   the number that the w cells from a place on spell after the number a, or the first refusal among them
--   low32 r               an answered number without its bits of weight 2^32 and above
use Rattle.std.specs.Prelude.{ℕ, zero, suc, ◌+◌, ◌*◌, ◌%◌, List, Ok, Err, Result}
use Rattle.refusals.specs.declared.refusal.Refusal.{Refusal}
use Rattle.carriers.specs.declared.bit.Bit.{Bit}
use Rattle.carriers.specs.Bits.{bit_value}
use Rattle.carriers.specs.Cells.{Cell}
use Rattle.carriers.specs.Reading.{cell_at}

abbrev pub and_then : {A : Type 0} → Result Bit Refusal → (Bit → Result A Refusal) → Result A Refusal
and_then (Ok b) f = f b
and_then (Err e) f = Err e

abbrev pub read_bits : List Cell → ℕ → ℕ → ℕ → Result ℕ Refusal
read_bits cs at zero a = Ok a
read_bits cs at (suc w) a = and_then (cell_at cs at) (λ b. read_bits cs (at + 1) w (2 * a + bit_value b))

abbrev pub low32 : Result ℕ Refusal → Result ℕ Refusal
low32 (Ok v) = Ok (v % 4294967296)
low32 (Err e) = Err e
