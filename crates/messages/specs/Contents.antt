-- The record that a frame in a message stands for. Assumes Messages, and the frames, the plan and the indices of the crates below.
--   held b p         what a frame in a message has for the part p; 0 where its mode has no such part
--   index_in b s t   the index of a track there
--   Stands b f       f is the record of the frame b: its mode, its fields, and the sets of its indices in order
--   Fine how b       every value fits its bits, and every index is accepted
--   IsFine how m vs  the same of a mode and its values, as tests
--   nth bs k         frame k of bs, if there is one
--   Returned r n a   the answer a to returning frame n of the read message r: its record; or the refusal of reading; or that there is none
use Rattle.std.specs.Prelude.{◌≡◌, ℕ, zero, suc, ◌^◌, ◌<◌, List, [], ◌∷◌, Some, None, Ok, Err, Option, Result, IsTrue, is_ok, slice_index}
use Rattle.refusals.specs.declared.cause.Cause.TheVariants.{NoSuchFrame}
use Rattle.refusals.specs.declared.refusal.Refusal.{Refusal}
use Rattle.refusals.specs.Spots.{because}
use Rattle.pulses.specs.declared.pulse.Pulse.{Pulse}
use Rattle.pulses.specs.declared.index.Reading.{Reading}
use Rattle.pulses.specs.Pulses.{sort}
use Rattle.pulses.specs.Reading.{pulses_of}
use Rattle.pulses.specs.Calls.{read_index}
use Rattle.modes.specs.declared.field.Field.{Field}
use Rattle.modes.specs.declared.mode.Mode.{Mode}
use Rattle.modes.specs.declared.plan.Part.{Part}
use Rattle.modes.specs.declared.plan.Part.TheVariants.{Value, High, Low}
use Rattle.modes.specs.Modes.{row, pulses_in}
use Rattle.modes.specs.Plan.{low_bits, part_width}
use Rattle.frames.specs.declared.frame.Frame.{Frame}
use Rattle.frames.specs.Frames.{value, pulses}
use Rattle.frames.specs.Bits.{place_of}
use Rattle.messages.specs.Messages.{Content, content, joined}

abbrev pub held : Content → Part → ℕ
held b p = slice_index b.values (place_of p)

abbrev pub index_in : Content → ℕ → ℕ → ℕ
index_in b s t = joined (held b (High s t)) (low_bits b.mode s t) (held b (Low s t))

abbrev pub set_in : Content → ℕ → ℕ → List Pulse
set_in b s t = sort (pulses_of (pulses_in b.mode s t) (row b.mode).places (index_in b s t))

pub record Stands (b : Content) (f : Frame) : Type 0 where
  pub mode : f.mode ≡ b.mode
  pub fields : (x : Field) → value f x ≡ held b (Value x)
  pub tracks : (s t : ℕ) → pulses f s t ≡ set_in b s t

pub record Fine (how : Reading) (b : Content) : Type 0 where
  pub fits : (p : Part) → held b p < 2 ^ part_width b.mode p
  pub tracks : (s t : ℕ) → 0 < pulses_in b.mode s t
      → (ps : List Pulse) × (read_index how (pulses_in b.mode s t) (row b.mode).places (index_in b s t) ≡ Ok ps)

abbrev pub IsFine : Reading → Mode → List ℕ → Type 0
IsFine how m vs =
    ((p : Part) → held (content m vs) p < 2 ^ part_width m p)
    × ((s t : ℕ) → 0 < pulses_in m s t → IsTrue (is_ok (read_index how (pulses_in m s t) (row m).places (index_in (content m vs) s t))))

abbrev pub nth : List Content → ℕ → Option Content
nth [] k = None
nth (f ∷ fs) zero = Some f
nth (f ∷ fs) (suc k) = nth fs k

abbrev pub Recorded : Option Content → Result Frame Refusal → Type 0
Recorded (Some b) (Ok f) = Stands b f
Recorded (Some b) (Err e) = ⊥
Recorded None (Ok f) = ⊥
Recorded None (Err e) = e ≡ because NoSuchFrame

abbrev pub Failed : Refusal → Result Frame Refusal → Type 0
Failed d (Ok f) = ⊥
Failed d (Err e) = e ≡ d

abbrev pub Returned : Result (List Content) Refusal → ℕ → Result Frame Refusal → Type 0
Returned (Ok bs) n a = Recorded (nth bs n) a
Returned (Err d) n a = Failed d a
