-- What a record holds, and what its calls do to it. Assumes Modes, Fields, Lawful, and the refusals and pulses of the crates below.
--   value f x             the value of the field x
--   field_bits f x        the bits of the field x; 0: the mode has no such field
--   count_of f s t        the pulses of track t of subframe s; 0: the mode has no such track
--   track_width f         the width of the mode's tracks
--   row_of f s t          the row in which a track is kept
--   pulses f s t          the pulses of the track, from the lowest place up
--   field_refusal c x     the refusal for c that tells the subframe of the field x, if it has one
--   track_refusal c s t   the refusal for c that tells the subframe and the track
--   Blank f               every field is 0, and every pulse plus on place 0
--   FieldSet ..           the field x is now v, and the rest is as before
--   FieldRefused ..       nothing changed, and why
--   TrackSet ..           the track has now the given pulses, in order, and the rest is as before
--   Unlawful n M ps c     the cause c for which n pulses on a track of width M cannot be ps
--   WhyNot f s t ps c     the cause c for which a track cannot be set to ps
--   TrackRefused ..       nothing changed, and why
--   Handed ..             the pulses stand in the front of the buffer, and the rest of it is as before
--   NotHanded ..          the buffer is as before, and why
--   FieldCopied ..        a field is now as in another record
--   TrackCopied ..        a track is now as in another record
use Rattle.std.specs.Prelude.{◌≡◌, ℕ, ◌+◌, ◌*◌, ◌^◌, ◌<◌, ◌≤◌, List, [], ◌++◌, length, take, drop, replicate, ◌≢◌, slice_index, slice_index_or}
use Rattle.refusals.specs.declared.cause.Cause.{Cause}
use Rattle.refusals.specs.declared.cause.Cause.TheVariants.{NoSuchField, ValueTooLarge, WrongNumber, OffTrack, BothSigns, BufferTooShort}
use Rattle.refusals.specs.declared.refusal.Refusal.{Refusal}
use Rattle.pulses.specs.declared.pulse.Pulse.{Pulse}
use Rattle.pulses.specs.Pulses.{Lawful, On, Group, sort}
use Rattle.pulses.specs.Sets.{none}
use Rattle.modes.specs.declared.field.Field.{Field}
use Rattle.frames.specs.declared.frame.Frame.{Frame}
use Rattle.modes.specs.Modes.{row, pulses_in}
use Rattle.modes.specs.Fields.{cell_of, width, spot_of, track_spot}

abbrev pub value : Frame → Field → ℕ
value f x = slice_index f.values (cell_of x)

abbrev pub field_bits : Frame → Field → ℕ
field_bits f x = width f.mode x

abbrev pub count_of : Frame → ℕ → ℕ → ℕ
count_of f s t = pulses_in f.mode s t

abbrev pub row_of : Frame → ℕ → ℕ → List Pulse
row_of f s t = slice_index_or f.tracks (4 * s + t) []

abbrev pub pulses : Frame → ℕ → ℕ → List Pulse
pulses f s t = take (count_of f s t) (row_of f s t)

abbrev pub track_width : Frame → ℕ
track_width f = (row f.mode).places

abbrev pub field_refusal : Cause → Field → Refusal
field_refusal c x = record { cause = c; spot = spot_of x }

abbrev pub track_refusal : Cause → ℕ → ℕ → Refusal
track_refusal c s t = record { cause = c; spot = track_spot s t }

pub record Blank (f : Frame) : Type 0 where
  pub fields : (x : Field) → value f x ≡ 0
  pub tracks : (s t : ℕ) → pulses f s t ≡ replicate (count_of f s t) none

pub record FieldSet (before after : Frame) (x : Field) (v : ℕ) : Type 0 where
  pub has : 0 < field_bits before x
  pub fits : v < 2 ^ field_bits before x
  pub mode : after.mode ≡ before.mode
  pub tracks : (s t : ℕ) → pulses after s t ≡ pulses before s t
  pub here : value after x ≡ v
  pub others : (y : Field) → (y ≢ x) → value after y ≡ value before y

abbrev pub FieldRefused : Frame → Frame → Field → ℕ → Refusal → Type 0
FieldRefused before after x v e =
    (after ≡ before)
    × (field_bits before x ≡ 0 → e ≡ field_refusal NoSuchField x)
    × (0 < field_bits before x → (2 ^ field_bits before x ≤ v) × (e ≡ field_refusal ValueTooLarge x))

pub record TrackSet (before after : Frame) (s t : ℕ) (given : List Pulse) : Type 0 where
  pub has : 0 < count_of before s t
  pub group : Group (track_width before) (count_of before s t) given
  pub mode : after.mode ≡ before.mode
  pub fields : (x : Field) → value after x ≡ value before x
  pub here : pulses after s t ≡ sort given
  pub others : (s' t' : ℕ) → (s' ≡ s → t' ≢ t) → pulses after s' t' ≡ pulses before s' t'

-- why n pulses for a track of width M are refused: the first no
pub data Unlawful (n M : ℕ) (given : List Pulse) : Cause → Type 0 where
  wrong_number : (length given ≢ n) → Unlawful n M given WrongNumber
  off_track : length given ≡ n → (On M given → ⊥) → Unlawful n M given OffTrack
  both_signs : length given ≡ n → On M given → (Lawful given → ⊥) → Unlawful n M given BothSigns

pub data WhyNot (f : Frame) (s t : ℕ) (given : List Pulse) : Cause → Type 0 where
  no_track : count_of f s t ≡ 0 → WhyNot f s t given NoSuchField
  unlawful : (c : Cause) → 0 < count_of f s t → Unlawful (count_of f s t) (track_width f) given c → WhyNot f s t given c

abbrev pub TrackRefused : Frame → Frame → ℕ → ℕ → List Pulse → Refusal → Type 0
TrackRefused before after s t given e =
    (after ≡ before) × (e ≡ track_refusal e.cause s t) × WhyNot before s t given e.cause

abbrev pub Handed : Frame → ℕ → ℕ → List Pulse → List Pulse → ℕ → Type 0
Handed f s t before after n =
    (0 < n) × (n ≤ length before) × (n ≡ count_of f s t) × (after ≡ pulses f s t ++ drop n before)

abbrev pub NotHanded : Frame → ℕ → ℕ → List Pulse → List Pulse → Refusal → Type 0
NotHanded f s t before after e =
    (after ≡ before)
    × (count_of f s t ≡ 0 → e ≡ track_refusal NoSuchField s t)
    × (0 < count_of f s t → (length before < count_of f s t) × (e ≡ track_refusal BufferTooShort s t))

pub record FieldCopied (from before after : Frame) (x : Field) : Type 0 where
  pub mode : after.mode ≡ before.mode
  pub tracks : (s t : ℕ) → pulses after s t ≡ pulses before s t
  pub here : value after x ≡ value from x
  pub others : (y : Field) → (y ≢ x) → value after y ≡ value before y

pub record TrackCopied (from before after : Frame) (s t : ℕ) : Type 0 where
  pub mode : after.mode ≡ before.mode
  pub fields : (x : Field) → value after x ≡ value before x
  pub here : pulses after s t ≡ pulses from s t
  pub others : (s' t' : ℕ) → (s' ≡ s → t' ≢ t) → pulses after s' t' ≡ pulses before s' t'
