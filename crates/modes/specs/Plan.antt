-- The plan of a mode: its slots, in the order of their bits. Assumes Modes, Fields.
--   index_bits m s t   the bits of the index of track t of subframe s
--   high_bits w        an index of 16, 20 or 22 bits is cut: so many of them are its high part
--   low_bits m s t     the bits of its low part: all, where the index is not cut
--   part_width m p     the bits of a part: 0 where the mode has no such part
--   subframe s         the parts of a subframe
--   order              the parts of a frame: the voice flag, the spectrum, then the subframes
--   plan m             the slots of the mode: the parts that it has, each with its width
--   nth ss k           slot k of ss, if there is one
--   Narrow r           a slot, where there is one, has 1 to 14 bits
--   total ss           the bits of the slots ss
use Rattle.std.specs.Prelude.{◌≡◌, ℕ, zero, suc, ◌+◌, ◌-◌, ◌≤◌, cond, List, [], ◌∷◌, ◌++◌, map, Some, None, filter, Option, ◌==◌, nat_lt}
use Rattle.pulses.specs.Rules.{bits}
use Rattle.modes.specs.declared.mode.Mode.{Mode}
use Rattle.modes.specs.declared.field.Field.TheVariants.{Voice, Spectrum, Delay, FilterFlag, Gain, HighBandGain}
use Rattle.modes.specs.declared.plan.Part.{Part}
use Rattle.modes.specs.declared.plan.Part.TheVariants.{Value, High, Low}
use Rattle.modes.specs.declared.plan.Slot.{Slot}
use Rattle.modes.specs.Modes.{modes, row, pulses_in}
use Rattle.modes.specs.Fields.{width}

abbrev pub index_bits : Mode → ℕ → ℕ → ℕ
index_bits m s t = bits (pulses_in m s t) (row m).places

abbrev pub high_bits : ℕ → ℕ
high_bits w = cond (w == 16) 2 (cond (w == 20) 10 (cond (w == 22) 11 0))

abbrev pub low_bits : Mode → ℕ → ℕ → ℕ
low_bits m s t = index_bits m s t - high_bits (index_bits m s t)

abbrev pub part_width : Mode → Part → ℕ
part_width m (Value x) = width m x
part_width m (High s t) = high_bits (index_bits m s t)
part_width m (Low s t) = low_bits m s t

-- all tracks' high parts come before all low parts
abbrev pub subframe : ℕ → List Part
subframe s =
    Value (Delay s) ∷ Value (FilterFlag s)
    ∷ High s 0 ∷ High s 1 ∷ High s 2 ∷ High s 3
    ∷ Low s 0 ∷ Low s 1 ∷ Low s 2 ∷ Low s 3
    ∷ Value (Gain s) ∷ Value (HighBandGain s) ∷ []

abbrev pub order : List Part
order =
    Value Voice
    ∷ Value (Spectrum 0) ∷ Value (Spectrum 1) ∷ Value (Spectrum 2) ∷ Value (Spectrum 3) ∷ Value (Spectrum 4) ∷ Value (Spectrum 5) ∷ Value (Spectrum 6)
    ∷ (subframe 0 ++ (subframe 1 ++ (subframe 2 ++ subframe 3)))

abbrev pub slot : Mode → Part → Slot
slot m p = record { part = p; width = part_width m p }

unfoldable pub plan : Mode → List Slot
plan m = filter (λ s. nat_lt 0 s.width) (map (slot m) order)

-- the slot at a place, where there is one
abbrev pub nth : List Slot → ℕ → Option Slot
nth [] k = None
nth (s ∷ ss) zero = Some s
nth (s ∷ ss) (suc k) = nth ss k

abbrev pub total : List Slot → ℕ
total [] = 0
total (s ∷ ss) = s.width + total ss

-- a slot, where there is one, has 1 to 14 bits
abbrev pub Narrow : Option Slot → Type 0
Narrow None = Unit {0}
Narrow (Some s) = (1 ≤ s.width) × (s.width ≤ 14)

-- how long the frames of each mode are
abbrev pub Totals : Type 0
Totals = map (λ m. total (plan m)) modes ≡ 132 ∷ 177 ∷ 253 ∷ 285 ∷ 317 ∷ 365 ∷ 397 ∷ 461 ∷ 477 ∷ []
