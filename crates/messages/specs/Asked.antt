-- The questions of reading one by one, as the code asks them. Assumes Messages, whose `questioned` and `next_frame` are proved to be made of them.
--   completed x          the track that is whole with the part x: with its low part, which comes last
--   track_read ..        the set of a track whose low part is the value v of w bits, after the values vs, or why it is refused
--   track_asked ..       may the value v of w bits be the low part of a track, after the values vs
--   if_whole x ask       a track is asked where it is whole
--   begun left v         what the number v of the mode cells begins, where so many more frames may come: a frame of a mode, or none where the message ends, or why it is refused
--   turn how cs n at k   frame n, of which the mode cells at a place began k: none where the message ends
use Rattle.std.specs.Prelude.{ℕ, ◌+◌, cond, List, Some, None, Ok, Err, Option, Result, ◌==◌, slice_index}
use Rattle.refusals.specs.declared.cause.Cause.{Cause}
use Rattle.refusals.specs.declared.cause.Cause.TheVariants.{NoSuchMode, TooManyFrames}
use Rattle.refusals.specs.declared.refusal.Refusal.{Refusal}
use Rattle.carriers.specs.Cells.{Cell}
use Rattle.pulses.specs.declared.pulse.Pulse.{Pulse}
use Rattle.pulses.specs.declared.index.Reading.{Reading}
use Rattle.pulses.specs.Calls.{read_index}
use Rattle.modes.specs.declared.mode.Mode.{Mode}
use Rattle.modes.specs.declared.plan.Part.{Part}
use Rattle.modes.specs.declared.plan.Part.TheVariants.{Value, High, Low}
use Rattle.modes.specs.Modes.{mode_of, row, pulses_in}
use Rattle.modes.specs.Plan.{plan}
use Rattle.frames.specs.Bits.{place_of}
use Rattle.messages.specs.Messages.{Content, content, and_then, refuse, bare, joined, settled, ending, read_slots, blank}

abbrev pub completed : Part → Option (ℕ × ℕ)
completed (Value x) = None
completed (High s t) = None
completed (Low s t) = Some (s, t)

abbrev pub track_read : Reading → Mode → List ℕ → ℕ → ℕ → ℕ → ℕ → Result (List Pulse) Refusal
track_read how m vs w v s t = read_index how (pulses_in m s t) (row m).places (joined (slice_index vs (place_of (High s t))) w v)

unfoldable pub track_asked : Reading → Mode → List ℕ → ℕ → ℕ → ℕ → ℕ → Result Unit Refusal
track_asked how m vs w v s t = settled (track_read how m vs w v s t)

abbrev pub if_whole : Option (ℕ × ℕ) → (ℕ → ℕ → Result Unit Refusal) → Result Unit Refusal
if_whole None ask = Ok tt
if_whole (Some x) ask = ask x.0 x.1

abbrev pub when_mode : {X : Type 0} → X → (Mode → X) → Option Mode → X
when_mode other go None = other
when_mode other go (Some m) = go m

-- 1111 ends the message, and no mode is answered; a number of no mode is refused before a frame too many
abbrev pub begun : ℕ → ℕ → Result (Option Mode) Cause
begun left v = cond (v == 15) (Ok None) (when_mode (Err NoSuchMode) (λ m. cond (left == 0) (Err TooManyFrames) (Ok (Some m))) (mode_of v))

unfoldable pub turn : Reading → List Cell → ℕ → ℕ → Result (Option Mode) Cause → Result (Option Content) Refusal
turn how cs n at (Ok None) = and_then (ending cs n (at + 4)) (λ _. Ok None)
turn how cs n at (Ok (Some m)) = and_then (read_slots how cs m n (at + 4) (plan m) blank) (λ vs. Ok (Some (content m vs)))
turn how cs n at (Err c) = refuse c (bare n at)
