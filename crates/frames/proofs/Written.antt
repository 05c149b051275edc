-- A written frame is read again.
use Rattle.std.proofs.Common.{◌≡◌, ℕ, ◌+◌, ◌-◌, ◌*◌, ◌^◌, ◌<◌, ◌≤◌, cond, eqb, List, sym, ap, ◌∙◌, subst, ap₂, ⊎_elim, arith}
use Rattle.std.proofs.lemmas.Bool.{cases_lt, cond_both, eqb-true}
use Rattle.pulses.specs.Pulses.{sort}
use Rattle.pulses.specs.Reading.{pulses_of}
use Rattle.pulses.specs.Laws.{Fits}
use Rattle.pulses.proofs.Cuts.{Split2, split2}
use Rattle.pulses.proofs.Indices.{round_trip}
use Rattle.modes.specs.declared.mode.Mode.{Mode}
use Rattle.modes.specs.declared.plan.Part.{Part}
use Rattle.modes.specs.declared.plan.Part.TheVariants.{Value, High, Low}
use Rattle.frames.specs.declared.frame.Frame.{Frame}
use Rattle.modes.specs.Modes.{row}
use Rattle.modes.specs.Plan.{index_bits, high_bits, low_bits, part_width, plan}
use Rattle.frames.specs.Frames.{count_of, pulses, track_width}
use Rattle.frames.specs.Bits.{index, part_value, frame_bits, held_for, read_part, read_field, read_track, Reads, LengthIsPlanned, ReadingUndoesWriting, RecordIsItsParts}
use Rattle.modes.proofs.Modes.{by_mode, pulses_in_few, pulses_in_has}
use Rattle.frames.proofs.Parted.{frame_front}
use Rattle.frames.proofs.Copied.{value_fits}
use Rattle.frames.proofs.Alike.{frame_ext}
use Rattle.frames.proofs.Spelling.{read_spelt, spell_long}
use Rattle.frames.proofs.Ordered.{held_is, plan_all}

wide : (m : Mode) → 4 ≤ (row m).places
wide = by_mode (λ m. 4 ≤ (row m).places) (omega arith) (omega arith) (omega arith) (omega arith) (omega arith) (omega arith) (omega arith) (omega arith) (omega arith)

-- the house index of a track is in bounds, and is read as its pulses
record Indexed (f : Frame) (s t : ℕ) : Type 0 where
  pub fits : index f s t < 2 ^ index_bits f.mode s t
  pub back : sort (pulses_of (count_of f s t) (track_width f) (index f s t)) ≡ pulses f s t

none : (n : ℕ) → n ≤ 0 → n ≡ 0
none n h = omega arith

indexed : (f : Frame) (s t : ℕ) → Indexed f s t
unfolding index sort
indexed f s t =
    ⊎_elim
    (λ has.
    let l = pulses_in_has f.mode s t has in
    let g = frame_front f s t l.0 l.1 in
    let fit : Fits (count_of f s t) (track_width f) = record { some = has; few = pulses_in_few f.mode s t; wide = omega (arith, wide f.mode, pulses_in_few f.mode s t) } in
    let r = round_trip (count_of f s t) (track_width f) (pulses f s t) fit g.group g.sorted in
    record { fits = r.0; back = r.1 })
    (λ no.
    let e : count_of f s t ≡ 0 = none (count_of f s t) no in
    record { fits = rw e (omega arith); back = rw e })
    (cases_lt 0 (count_of f s t))

high_low : (w : ℕ) → high_bits w + (w - high_bits w) ≡ w
high_low w =
    cond_both (eqb w 16) 2 (cond (eqb w 20) 10 (cond (eqb w 22) 11 0)) (λ h. h + (w - h) ≡ w) (λ e. omega (arith, eqb-true w 16 e)) (λ _.
    cond_both (eqb w 20) 10 (cond (eqb w 22) 11 0) (λ h. h + (w - h) ≡ w) (λ e. omega (arith, eqb-true w 20 e)) (λ _.
    cond_both (eqb w 22) 11 0 (λ h. h + (w - h) ≡ w) (λ e. omega (arith, eqb-true w 22 e)) (λ _. omega arith)))

cut : (f : Frame) (s t : ℕ) → Split2 (high_bits (index_bits f.mode s t)) (low_bits f.mode s t) (index f s t)
cut f s t =
    let w = index_bits f.mode s t in
    split2 (high_bits w) (low_bits f.mode s t) w (index f s t) (sym (high_low w)) (indexed f s t).fits

-- every value fits its slot
pub part_fits : (f : Frame) (p : Part) → part_value f p < 2 ^ part_width f.mode p
part_fits f (Value x) = value_fits f x
part_fits f (High s t) = (cut f s t).high
part_fits f (Low s t) = (cut f s t).low

pub part_none : (f : Frame) (p : Part) → part_width f.mode p ≡ 0 → part_value f p ≡ 0
part_none f p e = let h = rw e at (part_fits f p) in omega arith

-- what is read for a part of a written frame
pub read_part_lem : (f : Frame) (p : Part) → read_part f.mode (frame_bits f) p ≡ part_value f p
unfolding read_part frame_bits
read_part_lem f p =
    ap (λ vs. held_for (plan f.mode) vs p)
    (read_spelt (λ s. part_value f s.part) (plan f.mode) (plan_all f.mode (λ s. part_value f s.part < 2 ^ s.width) (part_fits f)))
    ∙ held_is f.mode (part_value f) p (part_none f p)

read_index_lem : (f : Frame) (s t : ℕ) → read_part f.mode (frame_bits f) (High s t) * 2 ^ low_bits f.mode s t + read_part f.mode (frame_bits f) (Low s t) ≡ index f s t
read_index_lem f s t =
    ap₂ (λ h l. h * 2 ^ low_bits f.mode s t + l) (read_part_lem f (High s t)) (read_part_lem f (Low s t)) ∙ (cut f s t).is

pub reads_itself : (f : Frame) → Reads (frame_bits f) f
reads_itself f = record {
  fields = λ x. sym (read_part_lem f (Value x));
  tracks = λ s t. sym (ap (λ i. sort (pulses_of (count_of f s t) (track_width f) i)) (read_index_lem f s t) ∙ (indexed f s t).back);
}

-- what is read from some bits is one record
pub read_alone : (bs : List ℕ) (f g : Frame) → f.mode ≡ g.mode → Reads bs f → Reads bs g → f ≡ g
read_alone bs f g e a b =
    frame_ext f g e
    (λ x. a.fields x ∙ ap (λ m. read_field m bs x) e ∙ sym (b.fields x))
    (λ s t. a.tracks s t ∙ ap (λ m. read_track m bs s t) e ∙ sym (b.tracks s t))

pub reading_undoes_writing : ReadingUndoesWriting
reading_undoes_writing f g e =
    ((λ r. read_alone (frame_bits f) f g e (reads_itself f) r), (λ same. subst (λ g. Reads (frame_bits f) g) same (reads_itself f)))

pub length_is_planned : LengthIsPlanned
unfolding frame_bits
length_is_planned f = spell_long (λ s. part_value f s.part) (plan f.mode)

pub record_is_its_parts : RecordIsItsParts
record_is_its_parts = frame_ext
