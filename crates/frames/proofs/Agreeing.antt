-- The excitation of a frame tells the pulses of every track.
use Rattle.std.proofs.Common.{◌≡◌, ℕ, ◌+◌, ◌*◌, ◌/◌, ◌%◌, ◌^◌, ◌<◌, ◌≤◌, Bool, ◌⊎◌, List, [], ◌∷◌, get_or, pos, ◌-ℤ◌, Decides, sym, refl, ap, ◌∙◌, subst, ap₂, inl, inr, ⊎_elim, arith}
use Rattle.std.proofs.lemmas.Int.{ints}
use Rattle.std.proofs.lemmas.Bool.{cases_lt}
use Rattle.pulses.specs.declared.pulse.Pulse.{Pulse}
use Rattle.pulses.specs.declared.pulse.Sign.{Sign}
use Rattle.pulses.specs.declared.pulse.Sign.TheVariants.{Plus, Minus}
use Rattle.pulses.specs.Pulses.{tally, On, EqualAmplitudes}
use Rattle.pulses.proofs.Tallies.{hit_apart}
use Rattle.pulses.proofs.Canon.{amplitudes_decide}
use Rattle.modes.specs.declared.mode.Mode.{Mode}
use Rattle.frames.specs.declared.frame.Frame.{Frame}
use Rattle.modes.specs.Modes.{row, pulses_in}
use Rattle.modes.specs.Plan.{plan}
use Rattle.frames.specs.Frames.{count_of, pulses, track_width}
use Rattle.frames.specs.Sound.{amplitude_at, sample_of, sample}
use Rattle.frames.specs.Bits.{part_value, spell, frame_bits, Reads, Agree, ValuesTellRecords, EqualBitsAgree}
use Rattle.modes.proofs.Modes.{by_mode, pulses_in_has, pulses_in_here}
use Rattle.frames.proofs.Lags.{by_four}
use Rattle.frames.proofs.Parted.{frame_front}
use Rattle.frames.proofs.Alike.{frame_ext}
use Rattle.frames.proofs.Written.{part_fits, reads_itself, read_alone}
use Rattle.frames.proofs.Ordered.{plan_all}

-- off the track there are no pulses
tally_off : (M : ℕ) (ps : List Pulse) (x : ℕ) (s : Sign) → On M ps → 2 ^ M ≤ x → tally ps x s ≡ 0
tally_off M [] x s o h = refl
tally_off M (p ∷ ps) x s o h =
    let ne : p.place ≡ x → ⊥ = λ e. omega (arith, o.0) in
    omega (arith, hit_apart p.place x p.sign s ne, tally_off M ps x s o.1 h)

-- the sample of a place of a track
pub record Sampled (m : Mode) (s t x : ℕ) : Type 0 where
  pub at : ℕ
  pub low : at < 256
  pub sub : at / 64 ≡ s
  pub track : at % 64 % (row m).tracks ≡ t
  pub place : at % 64 / (row m).tracks ≡ x

-- by the number of tracks r and of places n
sampled_by : (m : Mode) (r n s t x : ℕ) → (row m).tracks ≡ r → ((r ≡ 2) × (n ≡ 32)) ⊎ ((r ≡ 4) × (n ≡ 16)) → s < 4 → t < r → x < n → Sampled m s t x
sampled_by m r n s t x er (inl e) hs ht hx =
    let r2 : (row m).tracks ≡ 2 = er ∙ e.0 in
    record {
      at = 64 * s + (2 * x + t);
      low = omega (arith, e);
      sub = omega (arith, e);
      track = rw r2 (omega (arith, e));
      place = rw r2 (omega (arith, e));
    }
sampled_by m r n s t x er (inr e) hs ht hx =
    let r4 : (row m).tracks ≡ 4 = er ∙ e.0 in
    record {
      at = 64 * s + (4 * x + t);
      low = omega (arith, e);
      sub = omega (arith, e);
      track = rw r4 (omega (arith, e));
      place = rw r4 (omega (arith, e));
    }

shape : (m : Mode) → (((row m).tracks ≡ 2) × (2 ^ (row m).places ≡ 32)) ⊎ (((row m).tracks ≡ 4) × (2 ^ (row m).places ≡ 16))
shape =
    by_mode (λ m. (((row m).tracks ≡ 2) × (2 ^ (row m).places ≡ 32)) ⊎ (((row m).tracks ≡ 4) × (2 ^ (row m).places ≡ 16)))
    (inl (refl, refl)) (inr (refl, refl)) (inr (refl, refl)) (inr (refl, refl)) (inr (refl, refl)) (inr (refl, refl)) (inr (refl, refl)) (inr (refl, refl)) (inr (refl, refl))

-- a track that a mode has is one of those that share the samples
within : (t : ℕ) → t < 4 → (m : Mode) → (t < (row m).tracks) ⊎ (get_or (row m).pulses t 0 ≡ 0)
within =
    by_four (λ t. (m : Mode) → (t < (row m).tracks) ⊎ (get_or (row m).pulses t 0 ≡ 0))
    (by_mode _ (inl (omega arith)) (inl (omega arith)) (inl (omega arith)) (inl (omega arith)) (inl (omega arith)) (inl (omega arith)) (inl (omega arith)) (inl (omega arith)) (inl (omega arith)))
    (by_mode _ (inl (omega arith)) (inl (omega arith)) (inl (omega arith)) (inl (omega arith)) (inl (omega arith)) (inl (omega arith)) (inl (omega arith)) (inl (omega arith)) (inl (omega arith)))
    (by_mode _ (inr refl) (inl (omega arith)) (inl (omega arith)) (inl (omega arith)) (inl (omega arith)) (inl (omega arith)) (inl (omega arith)) (inl (omega arith)) (inl (omega arith)))
    (by_mode _ (inr refl) (inl (omega arith)) (inl (omega arith)) (inl (omega arith)) (inl (omega arith)) (inl (omega arith)) (inl (omega arith)) (inl (omega arith)) (inl (omega arith)))

track_within : (m : Mode) (s t : ℕ) → 0 < pulses_in m s t → t < (row m).tracks
track_within m s t has =
    let l = pulses_in_has m s t has in
    ⊎_elim (λ h. h) (λ z. absurd (omega (arith, pulses_in_here m s t l.0))) (within t l.1 m)

sampled : (m : Mode) (s t x : ℕ) → 0 < pulses_in m s t → x < 2 ^ (row m).places → Sampled m s t x
sampled m s t x has h = sampled_by m (row m).tracks (2 ^ (row m).places) s t x refl (shape m) (pulses_in_has m s t has).0 (track_within m s t has) h

-- the amplitude of a place is that of its sample
amplitude_there : (m : Mode) (f : Frame) (s t x : ℕ) → f.mode ≡ m → (a : Sampled m s t x) → sample f a.at ≡ amplitude_at (pulses f s t) x
unfolding sample_of
amplitude_there m f s t x e a =
    ap (λ m. amplitude_at (pulses f (a.at / 64) (a.at % 64 % (row m).tracks)) (a.at % 64 / (row m).tracks)) e
    ∙ ap₂ (λ s t. amplitude_at (pulses f s t) (a.at % 64 / (row m).tracks)) a.sub a.track
    ∙ ap (amplitude_at (pulses f s t)) a.place

crossed : (a b c d : ℕ) → pos a -ℤ pos b ≡ pos c -ℤ pos d → a + d ≡ c + b
crossed a b c d e = omega (arith, ints)

abbrev Heard : Frame → Frame → Type 0
Heard f g = (k : ℕ) → k < 256 → sample f k ≡ sample g k

equal_amplitudes : (f g : Frame) (s t : ℕ) → f.mode ≡ g.mode → 0 < count_of f s t → Heard f g → EqualAmplitudes (pulses f s t) (pulses g s t)
unfolding amplitude_at
equal_amplitudes f g s t e has h x =
    let l = pulses_in_has f.mode s t has in
    let of = (frame_front f s t l.0 l.1).group.on in
    let og : On (track_width f) (pulses g s t) = subst (λ m. On (row m).places (pulses g s t)) (sym e) (frame_front g s t l.0 l.1).group.on in
    ⊎_elim
    (λ lt.
    let a = sampled f.mode s t x has lt in
    crossed (tally (pulses f s t) x Plus) (tally (pulses f s t) x Minus) (tally (pulses g s t) x Plus) (tally (pulses g s t) x Minus)
    (sym (amplitude_there f.mode f s t x refl a) ∙ h a.at a.low ∙ amplitude_there f.mode g s t x (sym e) a))
    (λ ge. omega (
      arith,
      tally_off (track_width f) (pulses f s t) x Plus of ge,
      tally_off (track_width f) (pulses f s t) x Minus of ge,
      tally_off (track_width f) (pulses g s t) x Plus og ge,
      tally_off (track_width f) (pulses g s t) x Minus og ge,
    ))
    (cases_lt x (2 ^ track_width f))

same_tracks : (f g : Frame) → f.mode ≡ g.mode → Heard f g → (s t : ℕ) → pulses f s t ≡ pulses g s t
same_tracks f g e h s t =
    ⊎_elim
    (λ has.
    let l = pulses_in_has f.mode s t has in
    let a = frame_front f s t l.0 l.1 in
    let b = frame_front g s t l.0 l.1 in
    amplitudes_decide (pulses f s t) (pulses g s t) a.group.lawful b.group.lawful a.sorted b.sorted (equal_amplitudes f g s t e has h))
    (λ no.
    let zf : count_of f s t ≡ 0 = omega arith in
    let zg : count_of g s t ≡ 0 = sym (ap (λ m. pulses_in m s t) e) ∙ zf in
    rw (zf, zg))
    (cases_lt 0 (count_of f s t))

-- records that agree are one record
pub agree_same : (f g : Frame) → f.mode ≡ g.mode → Agree f g → f ≡ g
agree_same f g e a = frame_ext f g e a.fields (same_tracks f g e a.excitation)

pub equal_bits_agree : EqualBitsAgree
equal_bits_agree f g e = (
  (λ same.
      let one : f ≡ g = read_alone (frame_bits f) f g e (reads_itself f) (subst (λ bs. Reads bs g) (sym same) (reads_itself g)) in
      subst (λ g. Agree f g) one (record { fields = λ x. refl; excitation = λ k h. refl })),
  (λ a. ap frame_bits (agree_same f g e a)),
)

pub values_tell_records : ValuesTellRecords
unfolding frame_bits
values_tell_records f g = (
  plan_all f.mode (λ s. part_value f s.part < 2 ^ s.width) (part_fits f),
  (λ e same. agree_same f g e ((equal_bits_agree f g e).0 (ap₂ (λ m vs. spell (plan m) vs) e same))),
)

-- what decides whether two records are one decides the rest
pub agree_decides : (f g : Frame) (r : Bool) → Decides r (f ≡ g) → Decides r ((f.mode ≡ g.mode) × Agree f g)
agree_decides f g r d = (
  (λ e. let one = d.0 e in (ap (λ h. h.mode) one, subst (λ g. Agree f g) one (record { fields = λ x. refl; excitation = λ k h. refl }))),
  (λ a. d.1 (agree_same f g a.0 a.1)),
)

pub bits_decide : (f g : Frame) (r : Bool) → Decides r (f ≡ g) → Decides r ((f.mode ≡ g.mode) × (frame_bits f ≡ frame_bits g))
bits_decide f g r d = (
  (λ e. let one = d.0 e in (ap (λ h. h.mode) one, ap frame_bits one)),
  (λ a. d.1 (agree_same f g a.0 ((equal_bits_agree f g a.0).0 a.1))),
)
