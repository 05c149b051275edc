-- A fine frame has a record, and but one.
use Rattle.std.proofs.Common.{◌≡◌, ℕ, ◌+◌, ◌*◌, ◌/◌, ◌%◌, ◌^◌, ◌<◌, ◌≤◌, List, [], map, get_or, take, sym, refl, ap, ◌∙◌, subst, ap₂, inl, ⊎_elim, arith, pow_pos}
use Rattle.std.specs.List.{range_with_len}
use Rattle.std.proofs.lemmas.Bool.{cases_lt}
use Rattle.std.proofs.lemmas.List.{get_or_past}
use Rattle.std.proofs.lemmas.List.FromFn.{get_or-map-range_with_len, length-map-range_with_len}
use Rattle.pulses.specs.declared.pulse.Pulse.{Pulse}
use Rattle.pulses.specs.declared.index.Reading.{Reading}
use Rattle.pulses.specs.Pulses.{Group, sort}
use Rattle.pulses.specs.Sets.{none, at, apart, padded}
use Rattle.pulses.specs.Reading.{pulses_of}
use Rattle.pulses.proofs.CallLaws.{was_read, read_group}
use Rattle.modes.specs.declared.mode.Mode.{Mode}
use Rattle.modes.specs.declared.field.Field.{Field}
use Rattle.modes.specs.declared.plan.Part.TheVariants.{Value}
use Rattle.modes.specs.Modes.{row, pulses_in}
use Rattle.modes.specs.Fields.{cell_of, field_at, width}
use Rattle.modes.proofs.Modes.{pulses_in_few, pulses_in_has, pulses_in_here}
use Rattle.frames.specs.declared.frame.Frame.{Frame}
use Rattle.frames.specs.Lawful.{Fit, OnTrack, Rising, Padded, Long}
use Rattle.frames.proofs.Cells.{field_cell, width_has}
use Rattle.frames.proofs.Taken.{LawfulRow, taken_row, sorted_group, padded_front}
use Rattle.frames.proofs.Alike.{frame_ext}
use Rattle.messages.specs.Messages.{Content}
use Rattle.messages.specs.Contents.{held, index_in, set_in, Stands, Fine}

module _ (how : Reading) (b : Content) (fine : Fine how b) where
  m : Mode
  m = b.mode

  abbrev raw : ℕ → ℕ → List Pulse
  raw s t = pulses_of (pulses_in b.mode s t) (row b.mode).places (index_in b s t)

  group : (s t : ℕ) → Group (row b.mode).places (pulses_in b.mode s t) (raw s t)
  group s t =
      ⊎_elim
      (λ has.
      let n = pulses_in b.mode s t in
      let M = (row b.mode).places in
      let p = fine.tracks s t has in
      let r = was_read how n M (index_in b s t) p.0 p.1 in
      read_group n M (index_in b s t) r.used_so r.below r.lawful)
      (λ no.
      let e : pulses_in b.mode s t ≡ 0 = omega arith in
      let P : ℕ → Type 0 = λ n. Group (row b.mode).places n (pulses_of n (row b.mode).places (index_in b s t)) in
      subst P (sym e) (record { size = refl; on = tt; lawful = λ x. inl refl }))
      (cases_lt 0 (pulses_in b.mode s t))

  lawful : (s t : ℕ) → LawfulRow (pulses_in b.mode s t) (row b.mode).places (padded (set_in b s t))
  lawful s t = taken_row (pulses_in b.mode s t) (row b.mode).places (raw s t) (pulses_in_few b.mode s t) (group s t)

  abbrev value_at : ℕ → ℕ
  value_at k = held b (Value (field_at k))

  abbrev row_at : ℕ → List Pulse
  row_at i = padded (set_in b (i / 4) (i % 4))

  abbrev values : List ℕ
  values = map value_at (range_with_len 0 24)

  abbrev rows : List (List Pulse)
  rows = map row_at (range_with_len 0 16)

  value_is : (k : ℕ) → k < 24 → get_or values k 0 ≡ value_at k
  value_is k h = get_or-map-range_with_len value_at 0 24 k k 0 h (omega arith)

  row_is : (i : ℕ) → i < 16 → get_or rows i [] ≡ row_at i
  row_is i h = get_or-map-range_with_len row_at 0 16 i i [] h (omega arith)

  value_past : (k : ℕ) → 24 ≤ k → get_or values k 0 ≡ 0
  value_past k h = get_or_past values k 0 (omega (arith, length-map-range_with_len value_at 0 24))

  row_past : (i : ℕ) → 16 ≤ i → get_or rows i [] ≡ []
  row_past i h = get_or_past rows i [] (omega (arith, length-map-range_with_len row_at 0 16))

  fit : Fit b.mode values
  fit k =
      ⊎_elim
      (λ h. rw (value_is k h) (fine.fits (Value (field_at k))))
      (λ h. rw (value_past k h) (pow_pos (width b.mode (field_at k))))
      (cases_lt k 24)

  by_row : (P : ℕ → List Pulse → Type 0) → ((i : ℕ) → i < 16 → P i (row_at i)) → ((i : ℕ) → P i []) → (i : ℕ) → P i (get_or rows i [])
  by_row P h n i = ⊎_elim (λ l. subst (P i) (sym (row_is i l)) (h i l)) (λ l. subst (P i) (sym (row_past i l)) (n i)) (cases_lt i 16)

  here : (i : ℕ) → i < 16 → pulses_in b.mode (i / 4) (i % 4) ≡ get_or (row b.mode).pulses (i % 4) 0
  here i h = pulses_in_here b.mode (i / 4) (i % 4) (omega arith)

  on : OnTrack b.mode rows
  on i k = by_row (λ i r. (at r k).place < 2 ^ (row b.mode).places) (λ i h. (lawful (i / 4) (i % 4)).on k) (λ i. pow_pos (row b.mode).places) i

  nothing_apart : 0 + apart none none ≤ 0
  unfolding apart
  nothing_apart = omega arith

  rising : Rising b.mode rows
  rising i k =
      by_row (λ i r. k + 1 < get_or (row b.mode).pulses (i % 4) 0 → (at r k).place + apart (at r k) (at r (k + 1)) ≤ (at r (k + 1)).place)
      (λ i h l. (lawful (i / 4) (i % 4)).rising k (rw (here i h) l)) (λ i l. nothing_apart) i

  blank : Padded b.mode rows
  blank i k =
      by_row (λ i r. get_or (row b.mode).pulses (i % 4) 0 ≤ k → at r k ≡ none)
      (λ i h l. (lawful (i / 4) (i % 4)).padded k (rw (here i h) l)) (λ i l. refl) i

  long : Long rows
  long i h = rw (row_is i h) (lawful (i / 4) (i % 4)).long

  pub record_of : Frame
  record_of = record {
    mode = b.mode;
    values = values;
    tracks = rows;
    fit = fit;
    on = on;
    rising = rising;
    padded = blank;
    long = long;
    cells = length-map-range_with_len value_at 0 24;
    rows = length-map-range_with_len row_at 0 16;
  }

  zero_held : (x : Field) → 24 ≤ cell_of x → held b (Value x) ≡ 0
  zero_held x h =
      ⊎_elim
      (λ has. absurd (omega (arith, width_has b.mode x has)))
      (λ no. let e : width b.mode x ≡ 0 = omega arith in let f = rw e at (fine.fits (Value x)) in omega arith)
      (cases_lt 0 (width b.mode x))

  pub stands : Stands b record_of
  unfolding record_of sort
  stands = record {
    mode = refl;
    fields = λ x. ⊎_elim
        (λ h. value_is (cell_of x) h ∙ ap (λ y. held b (Value y)) (field_cell x h))
        (λ h. value_past (cell_of x) h ∙ sym (zero_held x h))
        (cases_lt (cell_of x) 24);
    tracks = λ s t. ⊎_elim
        (λ has.
        let l = pulses_in_has b.mode s t has in
        let a : (4 * s + t) / 4 ≡ s = omega (arith, l) in
        let c : (4 * s + t) % 4 ≡ t = omega (arith, l) in
        let r : get_or rows (4 * s + t) [] ≡ padded (set_in b s t) = row_is (4 * s + t) (omega (arith, l)) ∙ ap₂ (λ i j. padded (set_in b i j)) a c in
        ap (take (pulses_in b.mode s t)) r ∙ padded_front (set_in b s t) (pulses_in b.mode s t) (sorted_group (pulses_in b.mode s t) (row b.mode).places (raw s t) (group s t)).size)
        (λ no. let e : pulses_in b.mode s t ≡ 0 = omega arith in rw e)
        (cases_lt 0 (pulses_in b.mode s t));
  }

pub stands_alone : (b : Content) (f g : Frame) → Stands b f → Stands b g → f ≡ g
stands_alone b f g x y =
    frame_ext f g (x.mode ∙ sym y.mode) (λ z. x.fields z ∙ sym (y.fields z)) (λ s t. x.tracks s t ∙ sym (y.tracks s t))
