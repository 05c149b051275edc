-- The bits of a frame along its plan, written with house indices and read again. Assumes Plan, Frames, Sound and the indices of the pulses.
--   bits_of w v           the low w bits of v, most significant first
--   numeral a bs          the number that the bits bs spell after a
--   index f s t           the house index of a track's pulses
--   part_value f p        what the record f has for a part of the plan
--   slot_values f         what it has for each slot of its plan
--   spell ss vs           the values vs in the slots ss, as bits
--   frame_bits f          the bits of the frame
--   read_slots ss bs      the values of the slots ss in the bits bs
--   place_of p            what a part stands for in the order of the parts: its place; 56 is no place
--   held_for ss vs p      what stands for the part p among the values vs of the slots ss; 0 where no slot holds it
--   read_part m bs p      what stands for the part p in the bits bs of a frame of mode m
--   read_field m bs x     the field x in the bits bs of a frame of mode m
--   read_track m bs s t   the pulses of a track there
--   Reads bs f            the record f is what is read from the bits bs
--   Agree f g             the records agree in every field that is no pulse field, and in excitation
use Rattle.std.specs.Prelude.{◌≡◌, ℕ, zero, suc, ◌+◌, ◌*◌, ◌/◌, ◌%◌, ◌^◌, ◌<◌, cond, ◌↔◌, List, [], ◌∷◌, ◌++◌, map, length, take, drop, ◌==◌, nat_lt}
use Rattle.std.specs.List.{AllByRecursion}
use Rattle.pulses.specs.declared.pulse.Pulse.{Pulse}
use Rattle.pulses.specs.Pulses.{sort}
use Rattle.pulses.specs.House.{house}
use Rattle.pulses.specs.Reading.{pulses_of}
use Rattle.modes.specs.declared.mode.Mode.{Mode}
use Rattle.modes.specs.declared.field.Field.{Field}
use Rattle.modes.specs.declared.field.Field.TheVariants.{Voice, Spectrum, Delay, FilterFlag, Gain, HighBandGain}
use Rattle.modes.specs.declared.plan.Part.{Part}
use Rattle.modes.specs.declared.plan.Part.TheVariants.{Value, High, Low}
use Rattle.modes.specs.declared.plan.Slot.{Slot}
use Rattle.frames.specs.declared.frame.Frame.{Frame}
use Rattle.modes.specs.Modes.{row, pulses_in}
use Rattle.modes.specs.Plan.{low_bits, plan, total}
use Rattle.frames.specs.Frames.{value, count_of, pulses, track_width}
use Rattle.frames.specs.Sound.{sample}

abbrev pub bits_of : ℕ → ℕ → List ℕ
bits_of zero v = []
bits_of (suc w) v = v / 2 ^ w % 2 ∷ bits_of w v

abbrev pub numeral : ℕ → List ℕ → ℕ
numeral a [] = a
numeral a (b ∷ bs) = numeral (2 * a + b) bs

unfoldable pub index : Frame → ℕ → ℕ → ℕ
index f s t = house (count_of f s t) (track_width f) (pulses f s t)

abbrev pub part_value : Frame → Part → ℕ
part_value f (Value x) = value f x
part_value f (High s t) = index f s t / 2 ^ low_bits f.mode s t
part_value f (Low s t) = index f s t % 2 ^ low_bits f.mode s t

abbrev pub slot_values : Frame → List ℕ
slot_values f = map (λ s. part_value f s.part) (plan f.mode)

abbrev pub spell : List Slot → List ℕ → List ℕ
spell [] vs = []
spell (s ∷ ss) [] = []
spell (s ∷ ss) (v ∷ vs) = bits_of s.width v ++ spell ss vs

unfoldable pub frame_bits : Frame → List ℕ
frame_bits f = spell (plan f.mode) (slot_values f)

abbrev pub read_slots : List Slot → List ℕ → List ℕ
read_slots [] bs = []
read_slots (s ∷ ss) bs = numeral 0 (take s.width bs) ∷ read_slots ss (drop s.width bs)

abbrev in_subframe : ℕ → ℕ → ℕ
in_subframe s n = cond (nat_lt s 4) (8 + 12 * s + n) 56

abbrev place_on_track : ℕ → ℕ → ℕ → ℕ
place_on_track s t n = cond (nat_lt t 4) (in_subframe s (n + t)) 56

abbrev pub place_of : Part → ℕ
place_of (Value Voice) = 0
place_of (Value (Spectrum k)) = cond (nat_lt k 7) (1 + k) 56
place_of (Value (Delay s)) = in_subframe s 0
place_of (Value (FilterFlag s)) = in_subframe s 1
place_of (High s t) = place_on_track s t 2
place_of (Low s t) = place_on_track s t 6
place_of (Value (Gain s)) = in_subframe s 10
place_of (Value (HighBandGain s)) = in_subframe s 11

abbrev pub held_for : List Slot → List ℕ → Part → ℕ
held_for [] vs p = 0
held_for (s ∷ ss) [] p = 0
held_for (s ∷ ss) (v ∷ vs) p = cond (place_of s.part == place_of p) v (held_for ss vs p)

unfoldable pub read_part : Mode → List ℕ → Part → ℕ
read_part m bs p = held_for (plan m) (read_slots (plan m) bs) p

abbrev pub read_field : Mode → List ℕ → Field → ℕ
read_field m bs x = read_part m bs (Value x)

abbrev pub read_track : Mode → List ℕ → ℕ → ℕ → List Pulse
read_track m bs s t =
    sort (pulses_of (pulses_in m s t) (row m).places (read_part m bs (High s t) * 2 ^ low_bits m s t + read_part m bs (Low s t)))

pub record Reads (bs : List ℕ) (f : Frame) : Type 0 where
  pub fields : (x : Field) → value f x ≡ read_field f.mode bs x
  pub tracks : (s t : ℕ) → pulses f s t ≡ read_track f.mode bs s t

-- the bits of a frame are as many as its plan has
abbrev pub LengthIsPlanned : Type 0
LengthIsPlanned = (f : Frame) → length (frame_bits f) ≡ total (plan f.mode)

-- reading a written frame gives its record again, and no other
abbrev pub ReadingUndoesWriting : Type 0
ReadingUndoesWriting = (f g : Frame) → f.mode ≡ g.mode → Reads (frame_bits f) g ↔ (f ≡ g)

-- the values of a plan's slots, in their order, fit them, and tell the record
abbrev pub ValuesTellRecords : Type 0
ValuesTellRecords =
    (f g : Frame) → AllByRecursion (λ s. part_value f s.part < 2 ^ s.width) (plan f.mode) × (f.mode ≡ g.mode → slot_values f ≡ slot_values g → f ≡ g)

pub record Agree (f g : Frame) : Type 0 where
  pub fields : (x : Field) → value f x ≡ value g x
  pub excitation : (k : ℕ) → k < 256 → sample f k ≡ sample g k

-- two frames of one mode have equal bits exactly when they agree in all fields that are no pulse fields and in excitation
abbrev pub EqualBitsAgree : Type 0
EqualBitsAgree = (f g : Frame) → f.mode ≡ g.mode → (frame_bits f ≡ frame_bits g) ↔ Agree f g

-- a record is its mode, its fields and its pulses
abbrev pub RecordIsItsParts : Type 0
RecordIsItsParts =
    (f g : Frame) → f.mode ≡ g.mode → ((x : Field) → value f x ≡ value g x) → ((s t : ℕ) → pulses f s t ≡ pulses g s t) → f ≡ g
