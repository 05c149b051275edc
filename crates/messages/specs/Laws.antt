-- What reading means: by what a message is, strictly against openly, and one message against another. Assumes Messages, Contents, Written.
--   StrictIsOpen         whatever is accepted strictly is accepted openly, with the same frames
--   ReadsMessages        strict reading accepts exactly the messages of at most 512 frames, and answers how many these are
--   picked fs n          frame n of fs, or that there is none
--   ReturnsFrames        strict return of frame n of the message of fs gives frame n of fs
--   Alike fs gs          fs and gs agree in number and, one by one, in mode, in fields and in excitation
--   TrackRefusals        a track whose parts fit is refused for both signs, or strictly for an index that is not the house's, and for nothing else
--   RefusalsTellWhere    a refusal of reading tells a frame and a cell
--   NoBeginnings         no accepted message, strictly or openly, is the beginning of a longer one
--   EqualMessagesAgree   two messages are equal exactly when their frames agree
use Rattle.std.specs.Prelude.{◌≡◌, ℕ, zero, suc, ◌^◌, ◌<◌, ◌≤◌, ◌⊎◌, ◌↔◌, List, [], ◌∷◌, ◌++◌, length, Some, Ok, Err, Result, slice_index}
use Rattle.refusals.specs.declared.cause.Cause.TheVariants.{BothSigns, NotHouseIndex, NoSuchFrame}
use Rattle.refusals.specs.declared.refusal.Refusal.{Refusal}
use Rattle.refusals.specs.Spots.{because}
use Rattle.carriers.specs.Cells.{Cell}
use Rattle.pulses.specs.declared.index.Reading.{Reading}
use Rattle.pulses.specs.declared.index.Reading.TheVariants.{Strict, Open}
use Rattle.modes.specs.declared.mode.Mode.{Mode}
use Rattle.modes.specs.declared.plan.Part.TheVariants.{High, Low}
use Rattle.modes.specs.Modes.{pulses_in}
use Rattle.modes.specs.Plan.{part_width}
use Rattle.frames.specs.declared.frame.Frame.{Frame}
use Rattle.frames.specs.Bits.{place_of, Agree}
use Rattle.messages.specs.Messages.{Content, questioned, read_frames, counted}
use Rattle.messages.specs.Contents.{Returned}
use Rattle.messages.specs.Written.{message}

abbrev pub StrictIsOpen : Type 0
StrictIsOpen = (cs : List Cell) (bs : List Content) → read_frames Strict cs ≡ Ok bs → read_frames Open cs ≡ Ok bs

abbrev pub ReadsMessages : Type 0
ReadsMessages =
    (cs : List Cell) (n : ℕ)
    → (counted (read_frames Strict cs) ≡ Ok n) ↔ ((fs : List Frame) × (length fs ≤ 512) × (cs ≡ message fs) × (length fs ≡ n))

abbrev pub picked : List Frame → ℕ → Result Frame Refusal
picked [] n = Err (because NoSuchFrame)
picked (f ∷ fs) zero = Ok f
picked (f ∷ fs) (suc n) = picked fs n

abbrev pub ReturnsFrames : Type 0
ReturnsFrames =
    (fs : List Frame) (n : ℕ) (r : Result Frame Refusal) → length fs ≤ 512 → Returned (read_frames Strict (message fs)) n r → r ≡ picked fs n

abbrev pub Alike : List Frame → List Frame → Type 0
Alike [] [] = Unit {0}
Alike [] (g ∷ gs) = ⊥
Alike (f ∷ fs) [] = ⊥
Alike (f ∷ fs) (g ∷ gs) = (f.mode ≡ g.mode) × Agree f g × Alike fs gs

abbrev pub EqualMessagesAgree : Type 0
EqualMessagesAgree = (fs gs : List Frame) → length fs ≤ 512 → length gs ≤ 512 → (message fs ≡ message gs) ↔ Alike fs gs

abbrev pub NoBeginnings : Type 0
NoBeginnings =
    (how : Reading) (cs rest : List Cell) (bs ds : List Content) → read_frames how cs ≡ Ok bs → read_frames how (cs ++ rest) ≡ Ok ds → rest ≡ []

abbrev pub TrackRefusals : Type 0
TrackRefusals =
    (how : Reading) (m : Mode) (vs : List ℕ) (s t v : ℕ) (e : Refusal) → 0 < pulses_in m s t
    → slice_index vs (place_of (High s t)) < 2 ^ part_width m (High s t) → v < 2 ^ part_width m (Low s t)
    → questioned how m vs (Low s t) (part_width m (Low s t)) v ≡ Err e
    → (e ≡ because BothSigns) ⊎ ((how ≡ Strict) × (e ≡ because NotHouseIndex))

abbrev pub RefusalsTellWhere : Type 0
RefusalsTellWhere =
    (how : Reading) (cs : List Cell) (e : Refusal) → read_frames how cs ≡ Err e
    → (n : ℕ) × (at : ℕ) × (e.spot.frame ≡ Some n) × (e.spot.cell ≡ Some at)
