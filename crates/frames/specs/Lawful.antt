-- What makes a record lawful for its mode. Assumes Modes, Fields and the pulses of a track.
--   Fit m values        each field fits its bits; where the mode has no such field there is 0
--   pulse_at rows i k   pulse k of row i; track t of subframe s is row 4 * s + t
--   OnTrack m rows      every place is on the track
--   Rising m rows       a track's pulses go from the lowest place up, and those of different signs are at least a place apart
--   Padded m rows       past a track's pulses stand plus pulses on place 0
--   Long rows           every row has room for six
use Rattle.std.specs.Prelude.{◌≡◌, ℕ, ◌+◌, ◌%◌, ◌^◌, ◌<◌, ◌≤◌, List, [], length, slice_index, slice_index_or}
use Rattle.pulses.specs.declared.pulse.Pulse.{Pulse}
use Rattle.pulses.specs.Sets.{none, at, apart}
use Rattle.modes.specs.declared.mode.Mode.{Mode}
use Rattle.modes.specs.Modes.{row}
use Rattle.modes.specs.Fields.{width, field_at}

abbrev pub Fit : Mode → List ℕ → Type 0
Fit m values = (k : ℕ) → slice_index values k < 2 ^ width m (field_at k)

abbrev pub pulse_at : List (List Pulse) → ℕ → ℕ → Pulse
pulse_at rows i k = at (slice_index_or rows i []) k

abbrev pub OnTrack : Mode → List (List Pulse) → Type 0
OnTrack m rows = (i k : ℕ) → (pulse_at rows i k).place < 2 ^ (row m).places

abbrev pub Rising : Mode → List (List Pulse) → Type 0
Rising m rows =
    (i k : ℕ) → k + 1 < slice_index (row m).pulses (i % 4)
    → (pulse_at rows i k).place + apart (pulse_at rows i k) (pulse_at rows i (k + 1)) ≤ (pulse_at rows i (k + 1)).place

abbrev pub Padded : Mode → List (List Pulse) → Type 0
Padded m rows = (i k : ℕ) → slice_index (row m).pulses (i % 4) ≤ k → pulse_at rows i k ≡ none

abbrev pub Long : List (List Pulse) → Type 0
Long rows = (i : ℕ) → i < 16 → length (slice_index_or rows i []) ≡ 6
