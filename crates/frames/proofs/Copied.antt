-- Why a copy of a record's fields and tracks is never refused, and what it leaves.
use Rattle.std.proofs.Common.{◌≡◌, ℕ, ◌^◌, ◌<◌, ◌≤◌, List, Ok, Err, Result, sym, refl, ap, ◌∙◌, subst, ⊎_elim, arith, pow_pos, MatchResult}
use Rattle.std.proofs.lemmas.Bool.{cases_lt}
use Rattle.std.proofs.lemmas.List.{get_or_past}
use Rattle.refusals.specs.declared.cause.Cause.{Cause}
use Rattle.refusals.specs.declared.refusal.Refusal.{Refusal}
use Rattle.pulses.specs.declared.pulse.Pulse.{Pulse}
use Rattle.pulses.specs.Pulses.{sort}
use Rattle.modes.specs.declared.mode.Mode.{Mode}
use Rattle.modes.specs.declared.field.Field.{Field}
use Rattle.frames.specs.declared.frame.Frame.{Frame}
use Rattle.modes.specs.Modes.{row, pulses_in}
use Rattle.modes.specs.Fields.{cell_of, width}
use Rattle.frames.specs.Frames.{value, field_bits, count_of, pulses, track_width, FieldSet, FieldRefused, TrackSet, TrackRefused, Unlawful, WhyNot, FieldCopied, TrackCopied}
use Rattle.frames.specs.Frames.WhyNot.{no_track, unlawful}
use Rattle.modes.proofs.Modes.{pulses_in_has}
use Rattle.frames.proofs.Cells.{field_cell}
use Rattle.frames.proofs.Taken.{never_unlawful, sort_again}
use Rattle.frames.proofs.Parted.{frame_front}

-- every value fits
pub value_fits : (f : Frame) (x : Field) → value f x < 2 ^ field_bits f x
value_fits f x =
    ⊎_elim
    (λ h. rw (field_cell x h) at (f.fit (cell_of x)))
    (λ h. rw (get_or_past f.values (cell_of x) 0 (omega (arith, f.cells))) (pow_pos (field_bits f x)))
    (cases_lt (cell_of x) 24)

zero_there : (f : Frame) (x : Field) → field_bits f x ≡ 0 → value f x ≡ 0
zero_there f x e = let h = rw e at (value_fits f x) in omega arith

-- a value that a record of the mode holds is not refused
set_done : {U : Type 0} (f to to' : Frame) (x : Field) (v : ℕ) (r : Result U Refusal) → to.mode ≡ f.mode → 0 < field_bits f x → v ≡ value f x
    → MatchResult r (λ _. FieldSet to to' x v) (λ e. FieldRefused to to' x v e) → FieldSet to to' x v
set_done f to to' x v (Ok u) em has ev h = h
set_done f to to' x v (Err e) em has ev h =
    let eb : field_bits to x ≡ field_bits f x = ap (λ m. width m x) em in
    let over : 2 ^ field_bits f x ≤ v = rw eb at (h.2 (rw eb has)).0 in
    absurd (omega (arith, value_fits f x))

pub field_copied : {U : Type 0} (f to to' : Frame) (x : Field) (v : ℕ) (r : Result U Refusal) → to.mode ≡ f.mode
    → (0 < field_bits f x) × (v ≡ value f x) → MatchResult r (λ _. FieldSet to to' x v) (λ e. FieldRefused to to' x v e) → FieldCopied f to to' x
field_copied f to to' x v r em got h =
    let d = set_done f to to' x v r em got.0 got.1 h in
    record { mode = d.mode; tracks = d.tracks; here = d.here ∙ got.1; others = d.others }

pub field_left : (f to : Frame) (x : Field) → to.mode ≡ f.mode → field_bits f x ≡ 0 → FieldCopied f to to x
field_left f to x em z =
    let eb : field_bits to x ≡ field_bits f x = ap (λ m. width m x) em in
    record { mode = refl; tracks = λ s t. refl; here = zero_there to x (eb ∙ z) ∙ sym (zero_there f x z); others = λ y ne. refl }

-- a track that a record of the mode has is not refused
no_reason : (f to : Frame) (s t : ℕ) (given : List Pulse) (c : Cause) → to.mode ≡ f.mode → 0 < count_of f s t → given ≡ pulses f s t → WhyNot to s t given c → ⊥
no_reason f to s t given _ em has eg (no_track z) = let z' = rw em at z in omega arith
no_reason f to s t given _ em has eg (unlawful c has' u) =
    let l = pulses_in_has f.mode s t has in
    never_unlawful (count_of f s t) (track_width f) (pulses f s t) c (frame_front f s t l.0 l.1).group
    (let P : Mode → List Pulse → Type 0 = λ m ps. Unlawful (pulses_in m s t) (row m).places ps c in
    subst (P f.mode) eg (subst (λ m. P m given) em u))

track_done : {U : Type 0} (f to to' : Frame) (s t : ℕ) (given : List Pulse) (r : Result U Refusal) → to.mode ≡ f.mode → 0 < count_of f s t
    → given ≡ pulses f s t
    → MatchResult r (λ _. TrackSet to to' s t given) (λ e. TrackRefused to to' s t given e) → TrackSet to to' s t given
track_done f to to' s t given (Ok u) em has eg h = h
track_done f to to' s t given (Err e) em has eg h = absurd (no_reason f to s t given e.cause em has eg h.2)

pub track_copied : {U : Type 0} (f to to' : Frame) (s t : ℕ) (given : List Pulse) (r : Result U Refusal) → to.mode ≡ f.mode → 0 < count_of f s t
    → given ≡ pulses f s t
    → MatchResult r (λ _. TrackSet to to' s t given) (λ e. TrackRefused to to' s t given e) → TrackCopied f to to' s t
track_copied f to to' s t given r em has eg h =
    let d = track_done f to to' s t given r em has eg h in
    let l = pulses_in_has f.mode s t has in
    let g = frame_front f s t l.0 l.1 in
    record {
      mode = d.mode;
      fields = d.fields;
      here = d.here ∙ ap sort eg ∙ sort_again (count_of f s t) (track_width f) (pulses f s t) g.group g.sorted;
      others = d.others;
    }

pub track_left : (f to : Frame) (s t : ℕ) → to.mode ≡ f.mode → count_of f s t ≡ 0 → TrackCopied f to to s t
track_left f to s t em z =
    let zt : count_of to s t ≡ 0 = rw em z in
    record { mode = refl; fields = λ x. refl; here = rw (z, zt); others = λ s' t' ne. refl }

unset : {U : Type 0} (to to' : Frame) (s t : ℕ) (given : List Pulse) (r : Result U Refusal) → count_of to s t ≡ 0
    → MatchResult r (λ _. TrackSet to to' s t given) (λ e. TrackRefused to to' s t given e) → to' ≡ to
unset to to' s t given (Ok u) z h = absurd (omega (arith, h.has))
unset to to' s t given (Err e) z h = h.0

-- a track is set again, or the mode lacks it, and nothing changes
pub track_put : {U : Type 0} (f to to' : Frame) (s t : ℕ) (given : List Pulse) (r : Result U Refusal) → to.mode ≡ f.mode → given ≡ pulses f s t
    → MatchResult r (λ _. TrackSet to to' s t given) (λ e. TrackRefused to to' s t given e) → TrackCopied f to to' s t
track_put f to to' s t given r em eg h =
    ⊎_elim
    (λ has. track_copied f to to' s t given r em has eg h)
    (λ no. let z : count_of f s t ≡ 0 = omega arith in let P : Frame → Type 0 = λ g. TrackCopied f to g s t in subst P (sym (unset to to' s t given r (rw em z) h)) (track_left f to s t em z))
    (cases_lt 0 (count_of f s t))
