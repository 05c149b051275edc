-- Records with the same mode, fields and pulses are the same: the facts beside them have at most one proof.
use Rattle.std.proofs.Common.{◌≡◌, ℕ, ◌+◌, ◌*◌, ◌/◌, ◌%◌, ◌<◌, [], length, get_or, sym, ap, ◌∙◌, arith}
use mathlib.Core.HLevel.{is_prop→PathP}
use denote.Struct.Props.{props}
use Rattle.std.proofs.lemmas.List.{ext_get_or}
use Rattle.pulses.specs.contracts.pulse.Pulse.{the_row}
use Rattle.pulses.specs.Sets.{padded}
use Rattle.modes.specs.declared.field.Field.{Field}
use Rattle.frames.specs.declared.frame.Frame.{Frame}
use Rattle.modes.specs.Fields.{field_at}
use Rattle.frames.specs.Lawful.{Fit, OnTrack, Rising, Padded, Long}
use Rattle.frames.specs.Frames.{value, pulses, row_of}
use Rattle.frames.proofs.Cells.{cell_field}
use Rattle.frames.proofs.Parted.{frame_front}

pub frame_same : (f g : Frame) → f.mode ≡ g.mode → f.values ≡ g.values → f.tracks ≡ g.tracks → f ≡ g
frame_same f g em ev et = λ i. record {
  mode = em i;
  values = ev i;
  tracks = et i;
  fit = is_prop→PathP (λ i. Fit (em i) (ev i)) (λ i. hlevel props) f.fit g.fit i;
  on = is_prop→PathP (λ i. OnTrack (em i) (et i)) (λ i. hlevel props) f.on g.on i;
  rising = is_prop→PathP (λ i. Rising (em i) (et i)) (λ i. hlevel props) f.rising g.rising i;
  padded = is_prop→PathP (λ i. Padded (em i) (et i)) (λ i. let K = the_row.coded in hlevel props) f.padded g.padded i;
  long = is_prop→PathP (λ i. Long (et i)) (λ i. hlevel props) f.long g.long i;
  cells = is_prop→PathP (λ i. length (ev i) ≡ 24) (λ i. hlevel props) f.cells g.cells i;
  rows = is_prop→PathP (λ i. length (et i) ≡ 16) (λ i. hlevel props) f.rows g.rows i;
}

value_at : (f : Frame) (k : ℕ) → k < 24 → get_or f.values k 0 ≡ value f (field_at k)
value_at f k h = ap (λ k. get_or f.values k 0) (sym (cell_field k h))

row_same : (f g : Frame) (i : ℕ) → i < 16 → ((s t : ℕ) → pulses f s t ≡ pulses g s t) → get_or f.tracks i [] ≡ get_or g.tracks i []
row_same f g i h e =
    let a : i / 4 < 4 = omega arith in
    let b : i % 4 < 4 = omega arith in
    let ei : 4 * (i / 4) + i % 4 ≡ i = omega arith in
    let r : row_of f (i / 4) (i % 4) ≡ row_of g (i / 4) (i % 4) =
    (frame_front f (i / 4) (i % 4) a b).row ∙ ap padded (e (i / 4) (i % 4)) ∙ sym (frame_front g (i / 4) (i % 4) a b).row in
    rw ei at r

pub frame_ext : (f g : Frame) → f.mode ≡ g.mode → ((x : Field) → value f x ≡ value g x) → ((s t : ℕ) → pulses f s t ≡ pulses g s t) → f ≡ g
frame_ext f g em ev et =
    frame_same f g em
    (ext_get_or {A = ℕ} 0 f.values g.values (f.cells ∙ sym g.cells) (λ k h.
    let l : k < 24 = omega (arith, f.cells) in value_at f k l ∙ ev (field_at k) ∙ sym (value_at g k l)))
    (ext_get_or [] f.tracks g.tracks (f.rows ∙ sym g.rows) (λ i h. row_same f g i (omega (arith, f.rows)) et))
