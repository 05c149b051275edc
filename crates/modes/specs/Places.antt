-- The slot at a place of the plan, computed. Assumes Plan.
--   heads m         how many slots stand before the subframes
--   cuts m          how many high parts a subframe has
--   each m          how many slots a subframe has
--   part_in m s i   slot i of subframe s
--   slot_at m k     slot k of the plan, if there is one
--   size m          the bits of a frame
use Rattle.std.specs.Prelude.{ℕ, ◌+◌, ◌-◌, ◌/◌, ◌%◌, cond, Some, None, Option, ◌==◌, nat_lt}
use Rattle.modes.specs.declared.mode.Mode.{Mode}
use Rattle.modes.specs.declared.mode.Mode.TheVariants.{Rate6k60, Rate8k85, Rate12k65, Rate14k25, Rate15k85, Rate18k25, Rate19k85, Rate23k05, Rate23k85}
use Rattle.modes.specs.declared.field.Field.TheVariants.{Delay, FilterFlag, Gain, HighBandGain}
use Rattle.modes.specs.declared.plan.Part.{Part}
use Rattle.modes.specs.declared.plan.Part.TheVariants.{Value, High, Low}
use Rattle.modes.specs.declared.plan.Slot.{Slot}
use Rattle.modes.specs.Modes.{row}
use Rattle.modes.specs.Fields.{field_at}
use Rattle.modes.specs.Plan.{slot}

abbrev pub heads : Mode → ℕ
heads Rate6k60 = 6
heads Rate8k85 = 8
heads Rate12k65 = 8
heads Rate14k25 = 8
heads Rate15k85 = 8
heads Rate18k25 = 8
heads Rate19k85 = 8
heads Rate23k05 = 8
heads Rate23k85 = 8

abbrev pub cuts : Mode → ℕ
cuts Rate6k60 = 0
cuts Rate8k85 = 0
cuts Rate12k65 = 0
cuts Rate14k25 = 0
cuts Rate15k85 = 0
cuts Rate18k25 = 4
cuts Rate19k85 = 4
cuts Rate23k05 = 4
cuts Rate23k85 = 4

abbrev pub each : Mode → ℕ
each Rate6k60 = 4
each Rate8k85 = 6
each Rate12k65 = 7
each Rate14k25 = 7
each Rate15k85 = 7
each Rate18k25 = 11
each Rate19k85 = 11
each Rate23k05 = 11
each Rate23k85 = 12

abbrev pub part_in : Mode → ℕ → ℕ → Part
part_in m s i =
    let first = 1 + (row m).filter in
    cond (i == 0) (Value (Delay s))
    (cond (nat_lt i first) (Value (FilterFlag s))
    (cond (nat_lt i (first + cuts m)) (High s (i - first))
    (cond (nat_lt i (first + cuts m + (row m).tracks)) (Low s (i - (first + cuts m)))
    (cond (i == first + cuts m + (row m).tracks) (Value (Gain s)) (Value (HighBandGain s))))))

unfoldable pub slot_at : Mode → ℕ → Option Slot
slot_at m k =
    cond (nat_lt k (heads m)) (Some (slot m (Value (field_at k))))
    (cond (nat_lt ((k - heads m) / each m) 4) (Some (slot m (part_in m ((k - heads m) / each m) ((k - heads m) % each m)))) None)

abbrev pub size : Mode → ℕ
size Rate6k60 = 132
size Rate8k85 = 177
size Rate12k65 = 253
size Rate14k25 = 285
size Rate15k85 = 317
size Rate18k25 = 365
size Rate19k85 = 397
size Rate23k05 = 461
size Rate23k85 = 477
