-- Reading a message, strictly or openly: what it answers, over the list of its cells. Assumes the cells of carriers, the plan of a mode, the parts of a frame and the indices of tracks.
--   and_then r f            what f makes of the answer r; a refusal stays
--   spot_at n p at          frame n, the subframe and the track of the spot p, and the cell at
--   bare n at               a spot of frame n without subframe and track
--   spotted p r             the answer r; a refusal is told at the spot p
--   field cs p at w         the number in the w cells from a place on, the field of the spot p
--   joined h w v            the index of the high part h and of the low part v of w bits
--   questioned how m vs x w v   may the value v of w bits stand for the part x, after the values vs: a track is asked with its last part
--   read_slot, read_slots   one slot of a plan, and the slots one after the other: the values by the places of their parts
--   blank                   no value yet: 0 at each place; place 56 is no part's
--   filler at               how many cells there are from a place to the next multiple of eight
--   ending cs n at          what comes after 1111: zeros up to a multiple of eight, and nothing more
--   Content                 a frame as it stands in a message: its mode, and the values of its parts by their places
--   next_frame              frame n, where so many more frames may come: none where the message ends
--   read_from, read_frames   the frames from a place on after those before, and all frames of a message
--   counted r               how many they are
use Rattle.std.specs.Prelude.{ℕ, zero, suc, ◌+◌, ◌-◌, ◌*◌, ◌%◌, ◌^◌, cond, ◌&&◌, List, [], ◌∷◌, ◌++◌, length, replicate, Some, None, Ok, Err, Option, Result, ◌==◌, slice_index, slice_set}
use Rattle.refusals.specs.declared.cause.Cause.{Cause}
use Rattle.refusals.specs.declared.cause.Cause.TheVariants.{NoSuchMode, TooManyFrames, BadFill}
use Rattle.refusals.specs.declared.refusal.Spot.{Spot}
use Rattle.refusals.specs.declared.refusal.Refusal.{Refusal}
use Rattle.refusals.specs.Spots.{nowhere}
use Rattle.carriers.specs.Cells.{Cell}
use Rattle.carriers.specs.FieldReading.{read_bits}
use Rattle.pulses.specs.declared.pulse.Pulse.{Pulse}
use Rattle.pulses.specs.declared.index.Reading.{Reading}
use Rattle.pulses.specs.Calls.{read_index}
use Rattle.modes.specs.declared.mode.Mode.{Mode}
use Rattle.modes.specs.declared.plan.Part.{Part}
use Rattle.modes.specs.declared.plan.Part.TheVariants.{Value, High, Low}
use Rattle.modes.specs.declared.plan.Slot.{Slot}
use Rattle.modes.specs.Modes.{mode_of, row, pulses_in}
use Rattle.modes.specs.Fields.{part_spot}
use Rattle.modes.specs.Plan.{plan, total}
use Rattle.frames.specs.Bits.{place_of}

abbrev pub and_then : {X Y : Type 0} → Result X Refusal → (X → Result Y Refusal) → Result Y Refusal
and_then (Ok x) f = f x
and_then (Err e) f = Err e

abbrev pub refuse : {X : Type 0} → Cause → Spot → Result X Refusal
refuse c p = Err (record { cause = c; spot = p })

abbrev pub spot_at : ℕ → Spot → ℕ → Spot
spot_at n p at = record { frame = Some n; subframe = p.subframe; track = p.track; cell = Some at }

abbrev pub bare : ℕ → ℕ → Spot
bare n at = spot_at n nowhere at

abbrev pub spotted : {X : Type 0} → Spot → Result X Refusal → Result X Refusal
spotted p (Ok x) = Ok x
spotted p (Err e) = refuse e.cause p

-- the first cell that is missing or bad decides, and the whole field is told
unfoldable pub field : List Cell → Spot → ℕ → ℕ → Result ℕ Refusal
field cs p at w = spotted p (read_bits cs at w 0)

abbrev pub joined : ℕ → ℕ → ℕ → ℕ
joined h w v = h * 2 ^ w + v

abbrev pub settled : Result (List Pulse) Refusal → Result Unit Refusal
settled (Ok ps) = Ok tt
settled (Err e) = Err e

unfoldable pub questioned : Reading → Mode → List ℕ → Part → ℕ → ℕ → Result Unit Refusal
questioned how m vs (Value x) w v = Ok tt
questioned how m vs (High s t) w v = Ok tt
questioned how m vs (Low s t) w v =
    settled (read_index how (pulses_in m s t) (row m).places (joined (slice_index vs (place_of (High s t))) w v))

abbrev pub slot_spot : ℕ → Slot → ℕ → Spot
slot_spot n s at = spot_at n (part_spot s.part) at

unfoldable pub read_slot : Reading → List Cell → Mode → ℕ → ℕ → Slot → List ℕ → Result ℕ Refusal
read_slot how cs m n at s vs =
    and_then (field cs (slot_spot n s at) at s.width) (λ v.
    and_then (spotted (slot_spot n s at) (questioned how m vs s.part s.width v)) (λ _. Ok v))

unfoldable pub read_slots : Reading → List Cell → Mode → ℕ → ℕ → List Slot → List ℕ → Result (List ℕ) Refusal
read_slots how cs m n at [] vs = Ok vs
read_slots how cs m n at (s ∷ ss) vs =
    and_then (read_slot how cs m n at s vs) (λ v. read_slots how cs m n (at + s.width) ss (slice_set vs (place_of s.part) v))

abbrev pub blank : List ℕ
blank = replicate 57 0

abbrev pub filler : ℕ → ℕ
filler at = (8 - at % 8) % 8

-- all fill cells are read first, then each has to be zero and the last
unfoldable pub ending : List Cell → ℕ → ℕ → Result Unit Refusal
ending cs n at =
    and_then (field cs (bare n at) at (filler at)) (λ v.
    cond (v == 0 && length cs == at + filler at) (Ok tt) (refuse BadFill (bare n at)))

pub record Content : Type 0 where
  pub mode : Mode
  pub values : List ℕ

abbrev pub content : Mode → List ℕ → Content
content m vs = record { mode = m; values = vs }

abbrev pub if_mode : {X : Type 0} → Result X Refusal → (Mode → Result X Refusal) → Option Mode → Result X Refusal
if_mode other go None = other
if_mode other go (Some m) = go m

-- 1111 ends the message; a number of no mode is refused before a frame too many
unfoldable pub next_frame : Reading → List Cell → ℕ → ℕ → ℕ → Result (Option Content) Refusal
next_frame how cs left n at =
    and_then (field cs (bare n at) at 4) (λ v.
    cond (v == 15) (and_then (ending cs n (at + 4)) (λ _. Ok None))
    (if_mode (refuse NoSuchMode (bare n at)) (λ m.
    cond (left == 0) (refuse TooManyFrames (bare n at))
    (and_then (read_slots how cs m n (at + 4) (plan m) blank) (λ vs. Ok (Some (content m vs))))) (mode_of v)))

abbrev pub by_next : List Content → (Content → Result (List Content) Refusal) → Option Content → Result (List Content) Refusal
by_next before go None = Ok before
by_next before go (Some f) = go f

unfoldable pub read_from : Reading → List Cell → ℕ → ℕ → List Content → Result (List Content) Refusal
read_from how cs zero at before = and_then (next_frame how cs 0 (length before) at) (λ _. Ok before)
read_from how cs (suc left) at before =
    and_then (next_frame how cs (suc left) (length before) at)
    (by_next before (λ f. read_from how cs left (at + 4 + total (plan f.mode)) (before ++ f ∷ [])))

-- a message has at most 512 frames
abbrev pub read_frames : Reading → List Cell → Result (List Content) Refusal
read_frames how cs = read_from how cs 512 0 []

abbrev pub counted : Result (List Content) Refusal → Result ℕ Refusal
counted (Ok fs) = Ok (length fs)
counted (Err e) = Err e
