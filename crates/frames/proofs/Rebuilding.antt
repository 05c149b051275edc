-- The steps of the loop that builds the fields of a record again, and its end.
use Rattle.std.proofs.Common.{◌≡◌, ℕ, ◌+◌, ◌<◌, sym, ◌∙◌, subst, ⊎_elim, arith}
use Rattle.std.proofs.lemmas.Bool.{cases_eq, cases_lt}
use Rattle.std.proofs.lemmas.List.{get_or_past}
use Rattle.modes.specs.declared.field.Field.{Field}
use Rattle.frames.specs.declared.frame.Frame.{Frame}
use Rattle.modes.specs.Fields.{cell_of, field_at}
use Rattle.frames.specs.Frames.{value, count_of, pulses, FieldCopied}
use Rattle.modes.proofs.Modes.{pulses_in_has}
use Rattle.frames.proofs.Cells.{field_cell, field_apart}

pub fields_more : (f to to' : Frame) (n : ℕ) → n < 24 → FieldCopied f to to' (field_at n) → ((k : ℕ) → k < n → value to (field_at k) ≡ value f (field_at k))
    → (k : ℕ) → k < n + 1 → value to' (field_at k) ≡ value f (field_at k)
fields_more f to to' n l c old k h =
    ⊎_elim
    (λ e. let P : ℕ → Type 0 = λ k. value to' (field_at k) ≡ value f (field_at k) in subst P (sym e) c.here)
    (λ ne. c.others (field_at k) (field_apart k n (omega arith) l ne) ∙ old k (omega arith))
    (cases_eq k n)

-- all cells are all fields
pub fields_all : (f g : Frame) → ((k : ℕ) → k < 24 → value g (field_at k) ≡ value f (field_at k)) → (x : Field) → value g x ≡ value f x
fields_all f g h x =
    ⊎_elim
    (λ l. let P : Field → Type 0 = λ x. value g x ≡ value f x in subst P (field_cell x l) (h (cell_of x) l))
    (λ l. get_or_past g.values (cell_of x) 0 (omega (arith, g.cells)) ∙ sym (get_or_past f.values (cell_of x) 0 (omega (arith, f.cells))))
    (cases_lt (cell_of x) 24)

-- sixteen tracks are all tracks
pub tracks_all : (f g : Frame) → g.mode ≡ f.mode → ((s t : ℕ) → s < 4 → t < 4 → pulses g s t ≡ pulses f s t) → (s t : ℕ) → pulses g s t ≡ pulses f s t
tracks_all f g em h s t =
    ⊎_elim
    (λ has. let l = pulses_in_has f.mode s t has in h s t l.0 l.1)
    (λ no.
    let z : count_of f s t ≡ 0 = omega arith in
    let zg : count_of g s t ≡ 0 = rw em z in
    rw (z, zg))
    (cases_lt 0 (count_of f s t))
