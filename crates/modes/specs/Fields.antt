-- The fields of a frame that are no pulse fields. Assumes Modes.
--   cell_of x    what a field stands for: its cell in a record; 24 is no cell
--   field_at k   the field of cell k
--   width m x    the bits that mode m gives the field x; 0: it has no such field
--   spot_of x    what a refusal tells of the field x: its subframe, if it has one
--   track_spot s t, part_spot p   the same of a track, and of a part of the plan
use Rattle.std.specs.Prelude.{ℕ, ◌+◌, ◌-◌, cond, Some, None, nat_lt, slice_index}
use Rattle.refusals.specs.declared.refusal.Spot.{Spot}
use Rattle.refusals.specs.Spots.{nowhere}
use Rattle.modes.specs.declared.mode.Mode.{Mode}
use Rattle.modes.specs.declared.field.Field.{Field}
use Rattle.modes.specs.declared.field.Field.TheVariants.{Voice, Spectrum, Delay, FilterFlag, Gain, HighBandGain}
use Rattle.modes.specs.declared.plan.Part.{Part}
use Rattle.modes.specs.declared.plan.Part.TheVariants.{Value, High, Low}
use Rattle.modes.specs.Modes.{row}

abbrev pub cell_of : Field → ℕ
cell_of Voice = 0
cell_of (Spectrum k) = cond (nat_lt k 7) (1 + k) 24
cell_of (Delay s) = cond (nat_lt s 4) (8 + s) 24
cell_of (FilterFlag s) = cond (nat_lt s 4) (12 + s) 24
cell_of (Gain s) = cond (nat_lt s 4) (16 + s) 24
cell_of (HighBandGain s) = cond (nat_lt s 4) (20 + s) 24

abbrev pub field_at : ℕ → Field
field_at k =
    cond (nat_lt k 1) Voice (cond (nat_lt k 8) (Spectrum (k - 1)) (cond (nat_lt k 12) (Delay (k - 8))
    (cond (nat_lt k 16) (FilterFlag (k - 12)) (cond (nat_lt k 20) (Gain (k - 16)) (HighBandGain (k - 20))))))

abbrev pub width : Mode → Field → ℕ
width m Voice = 1
width m (Spectrum k) = cond (nat_lt k 7) (slice_index (row m).spectrum k) 0
width m (Delay s) = cond (nat_lt s 4) (slice_index (row m).delays s) 0
width m (FilterFlag s) = cond (nat_lt s 4) (row m).filter 0
width m (Gain s) = cond (nat_lt s 4) (row m).gain 0
width m (HighBandGain s) = cond (nat_lt s 4) (row m).band 0

abbrev in_subframe : ℕ → Spot
in_subframe s = record { frame = None; subframe = Some s; track = None; cell = None }

abbrev pub spot_of : Field → Spot
spot_of Voice = nowhere
spot_of (Spectrum k) = nowhere
spot_of (Delay s) = in_subframe s
spot_of (FilterFlag s) = in_subframe s
spot_of (Gain s) = in_subframe s
spot_of (HighBandGain s) = in_subframe s

abbrev pub track_spot : ℕ → ℕ → Spot
track_spot s t = record { frame = None; subframe = Some s; track = Some t; cell = None }

abbrev pub part_spot : Part → Spot
part_spot (Value x) = spot_of x
part_spot (High s t) = track_spot s t
part_spot (Low s t) = track_spot s t
