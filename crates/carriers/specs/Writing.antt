-- What putting and cutting answer and leave. Assumes Cells; looks at no cell that is already there.
--   Put before room b r after   of a carrier with so much room, putting the bit b answers r and leads from the cells before to those after
--   Cut before n r after        cutting to n cells answers r and leads from the cells before to those after
--   Untouched r before after    where r refuses, the carrier with its memory is what it was before
use Rattle.std.specs.Prelude.{◌≡◌, ℕ, ◌<◌, ◌≤◌, List, [], ◌∷◌, ◌++◌, length, take, Ok, Err, Result}
use Rattle.refusals.specs.declared.cause.Cause.TheVariants.{CarrierFull, CellMissing}
use Rattle.refusals.specs.declared.refusal.Refusal.{Refusal}
use Rattle.refusals.specs.Spots.{because}
use Rattle.carriers.specs.declared.bit.Bit.{Bit}
use Rattle.carriers.specs.Cells.{Cell, bit}

abbrev pub Put : List Cell → ℕ → Bit → Result Unit Refusal → List Cell → Type 0
Put before room b (Ok _) after = (length before < room) × (after ≡ before ++ bit b ∷ [])
Put before room b (Err e) after = (e ≡ because CarrierFull) × (room ≤ length before) × (after ≡ before)

abbrev pub Cut : List Cell → ℕ → Result Unit Refusal → List Cell → Type 0
Cut before n (Ok _) after = (n ≤ length before) × (after ≡ take n before)
Cut before n (Err e) after = (e ≡ because CellMissing) × (length before < n) × (after ≡ before)

abbrev pub Untouched : {C : Type 0} → Result Unit Refusal → C → C → Type 0
Untouched (Ok _) before after = Unit
Untouched (Err _) before after = after ≡ before
