-- The house index of a track, as writing an index gives it.
use Rattle.std.proofs.Common.{◌≡◌, ℕ, ◌<◌, true, List, [], get_or, Ok, Err, Result, sym, refl, ap, ◌∙◌, subst, ⊎_elim, arith}
use Rattle.std.specs.Result.{result_unwrap_or}
use Rattle.std.proofs.lemmas.Bool.{cases_lt}
use Rattle.refusals.specs.declared.cause.Cause.TheVariants.{WrongNumber}
use Rattle.refusals.specs.declared.refusal.Refusal.{Refusal}
use Rattle.refusals.specs.Spots.{because}
use Rattle.pulses.specs.declared.pulse.Pulse.{Pulse}
use Rattle.pulses.specs.House.{house}
use Rattle.pulses.specs.Calls.{used, write_index}
use Rattle.pulses.proofs.CallLaws.{writes}
use Rattle.modes.specs.declared.mode.Mode.{Mode}
use Rattle.modes.specs.Modes.{row, pulses_in}
use Rattle.modes.proofs.Modes.{by_mode, pulses_in_has, pulses_in_here}
use Rattle.frames.specs.declared.frame.Frame.{Frame}
use Rattle.frames.specs.Frames.{count_of, pulses, track_width}
use Rattle.frames.specs.Bits.{index}
use Rattle.frames.proofs.Lags.{by_four}
use Rattle.frames.proofs.Parted.{frame_front}
use Rattle.frames.proofs.Taken.{sort_again}

-- a mode's tracks have numbers of pulses that are in use
used_by : (t : ℕ) → t < 4 → (m : Mode) → 0 < get_or (row m).pulses t 0 → used (get_or (row m).pulses t 0) (row m).places ≡ true
used_by =
    by_four (λ t. (m : Mode) → 0 < get_or (row m).pulses t 0 → used (get_or (row m).pulses t 0) (row m).places ≡ true)
    (by_mode _ (λ h. refl) (λ h. refl) (λ h. refl) (λ h. refl) (λ h. refl) (λ h. refl) (λ h. refl) (λ h. refl) (λ h. refl))
    (by_mode _ (λ h. refl) (λ h. refl) (λ h. refl) (λ h. refl) (λ h. refl) (λ h. refl) (λ h. refl) (λ h. refl) (λ h. refl))
    (by_mode _ (λ h. absurd (omega arith)) (λ h. refl) (λ h. refl) (λ h. refl) (λ h. refl) (λ h. refl) (λ h. refl) (λ h. refl) (λ h. refl))
    (by_mode _ (λ h. absurd (omega arith)) (λ h. refl) (λ h. refl) (λ h. refl) (λ h. refl) (λ h. refl) (λ h. refl) (λ h. refl) (λ h. refl))

pub used_in : (m : Mode) (s t : ℕ) → 0 < pulses_in m s t → used (pulses_in m s t) (row m).places ≡ true
used_in m s t h =
    let l = pulses_in_has m s t h in
    let e = pulses_in_here m s t l.0 in
    let g : 0 < get_or (row m).pulses t 0 = rw e at h in
    let P : ℕ → Type 0 = λ n. used n (row m).places ≡ true in
    subst P (sym e) (used_by t l.1 m g)

-- writing the pulses of a track gives its house index
pub house_written : (f : Frame) (s t : ℕ) → 0 < count_of f s t → write_index (track_width f) (pulses f s t) ≡ Ok (index f s t)
unfolding index
house_written f s t has =
    let l = pulses_in_has f.mode s t has in
    let g = frame_front f s t l.0 l.1 in
    let n = count_of f s t in
    let M = track_width f in
    let ps = pulses f s t in
    writes M n ps (used_in f.mode s t has) g.group ∙ ap (λ (z : List Pulse). Ok (house n M z)) (sort_again n M ps g.group g.sorted)

-- and refuses where there is none
none_written : (m : Mode) → write_index (row m).places [] ≡ Err (because WrongNumber)
unfolding write_index
none_written = by_mode (λ m. write_index (row m).places [] ≡ Err (because WrongNumber)) refl refl refl refl refl refl refl refl refl

no_pulses : (f : Frame) (s t : ℕ) → count_of f s t ≡ 0 → write_index (track_width f) (pulses f s t) ≡ Err (because WrongNumber)
no_pulses f s t e = rw e (none_written f.mode)

no_index : (f : Frame) (s t : ℕ) → count_of f s t ≡ 0 → 0 ≡ index f s t
unfolding index
no_index f s t e = rw e

-- what writing an index gives, with 0 where it refuses
pub index_written : (f : Frame) (s t M : ℕ) (ps : List Pulse) (r : Result ℕ Refusal) → M ≡ track_width f → ps ≡ pulses f s t → r ≡ write_index M ps
    → result_unwrap_or r 0 ≡ index f s t
index_written f s t M ps r eM ep e =
    let told : r ≡ write_index (track_width f) (pulses f s t) = rw (← eM, ← ep) e in
    ⊎_elim
    (λ has. rw (told ∙ house_written f s t has) refl)
    (λ no. let z : count_of f s t ≡ 0 = omega arith in rw (told ∙ no_pulses f s t z) (no_index f s t z))
    (cases_lt 0 (count_of f s t))
