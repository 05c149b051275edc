-- Reading by the index relation: the cells of frames, each track by any index of its set that is accepted. Assumes Messages, Written and the rules of the indices.
--   By how f g         the values g are those of the record f: its fields, and for each track an index of its set, strictly the house's
--   cells_by f g       the mode of f in 4 bits, then the values g in the slots of its plan
--   Bodies how fs cs   the cells cs are those of the frames fs, one after the other, each by some values
--   ended front        the cells front, 1111, and zeros up to a multiple of eight
--   ReadsByIndices     reading accepts exactly when the cells are such, of at most 512 frames, and answers how many these are
use Rattle.std.specs.Prelude.{◌≡◌, ℕ, ◌+◌, ◌^◌, ◌<◌, ◌≤◌, ◌↔◌, List, [], ◌∷◌, ◌++◌, map, length, Ok}
use Rattle.carriers.specs.Cells.{Cell}
use Rattle.carriers.specs.Fields.{bits_of}
use Rattle.pulses.specs.declared.index.Reading.{Reading}
use Rattle.pulses.specs.Rules.{Index}
use Rattle.pulses.specs.Calls.{choice}
use Rattle.modes.specs.declared.field.Field.{Field}
use Rattle.modes.specs.declared.plan.Part.{Part}
use Rattle.modes.specs.declared.plan.Part.TheVariants.{Value, High, Low}
use Rattle.modes.specs.Modes.{number_of}
use Rattle.modes.specs.Plan.{low_bits, part_width, plan}
use Rattle.frames.specs.declared.frame.Frame.{Frame}
use Rattle.frames.specs.Frames.{value, count_of, pulses, track_width}
use Rattle.frames.specs.Bits.{spell}
use Rattle.messages.specs.Messages.{joined, filler, read_frames, counted}
use Rattle.messages.specs.Written.{as_cells}

pub record By (how : Reading) (f : Frame) (g : Part → ℕ) : Type 0 where
  pub fields : (x : Field) → g (Value x) ≡ value f x
  pub fits : (p : Part) → g p < 2 ^ part_width f.mode p
  pub indices : (s t : ℕ) → 0 < count_of f s t
      → Index (choice how) (count_of f s t) (track_width f) (pulses f s t) (joined (g (High s t)) (low_bits f.mode s t) (g (Low s t)))

abbrev pub cells_by : Frame → (Part → ℕ) → List Cell
cells_by f g = bits_of 4 (number_of f.mode) ++ as_cells (spell (plan f.mode) (map (λ s. g s.part) (plan f.mode)))

pub data Bodies (how : Reading) : List Frame → List Cell → Type 0 where
  none : Bodies how [] []
  more : (f : Frame) (g : Part → ℕ) (fs : List Frame) (cs : List Cell) → By how f g → Bodies how fs cs → Bodies how (f ∷ fs) (cells_by f g ++ cs)

abbrev pub ended : List Cell → List Cell
ended front = front ++ (bits_of 4 15 ++ bits_of (filler (length front + 4)) 0)

abbrev pub ReadsByIndices : Type 0
ReadsByIndices =
    (how : Reading) (cs : List Cell) (n : ℕ)
    → (counted (read_frames how cs) ≡ Ok n)
    ↔ ((fs : List Frame) × (front : List Cell) × Bodies how fs front × (length fs ≤ 512) × (cs ≡ ended front) × (length fs ≡ n))
