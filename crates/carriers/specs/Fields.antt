-- A number as a row of cells, most significant first, and what putting one answers and leaves. Assumes Cells; looks at no cell that is already there.
--   bits_of w v                       the low w bits of the number v; above its own bits a number has zeros
--   PutBits before room v w r after   of a carrier with so much room, putting the low w bits of v answers r and leads from the cells before to those after
use Rattle.std.specs.Prelude.{◌≡◌, ℕ, zero, suc, ◌+◌, ◌/◌, ◌^◌, ◌<◌, ◌≤◌, List, [], ◌∷◌, ◌++◌, length, Ok, Err, Result}
use Rattle.refusals.specs.declared.cause.Cause.TheVariants.{CarrierFull}
use Rattle.refusals.specs.declared.refusal.Refusal.{Refusal}
use Rattle.refusals.specs.Spots.{because}
use Rattle.carriers.specs.Bits.{bit_of}
use Rattle.carriers.specs.Cells.{Cell, bit}

abbrev pub bits_of : ℕ → ℕ → List Cell
bits_of zero v = []
bits_of (suc w) v = bit (bit_of (v / 2 ^ w)) ∷ bits_of w v

abbrev pub PutBits : List Cell → ℕ → ℕ → ℕ → Result Unit Refusal → List Cell → Type 0
PutBits before room v w (Ok _) after = (length before + w ≤ room) × (after ≡ before ++ bits_of w v)
PutBits before room v w (Err e) after = (e ≡ because CarrierFull) × (room < length before + w) × (after ≡ before)
