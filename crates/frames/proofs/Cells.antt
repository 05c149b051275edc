-- A field's cell is its own; and what a shift tells.
use Rattle.std.proofs.Common.{◌≡◌, ℕ, ◌/◌, ◌^◌, ◌<◌, ltb, ◌≢◌, sym, refl, ap, ◌∙◌, ⊎_elim, zero-add, zero-mul, arith, pow_pos}
use native.Mathlib.Nat.{lt-div-mul-add}
use Rattle.std.proofs.lemmas.Bool.{cond_both, cases_lt}
use Rattle.std.proofs.lemmas.Bool.Decides.{nat_tests}
use Rattle.modes.specs.declared.mode.Mode.{Mode}
use Rattle.modes.specs.declared.field.Field.{Field}
use Rattle.modes.specs.declared.field.Field.TheVariants.{Voice, Spectrum, Delay, FilterFlag, Gain, HighBandGain}
use Rattle.modes.specs.Fields.{cell_of, field_at, width}

pub field_cell : (x : Field) → cell_of x < 24 → field_at (cell_of x) ≡ x
field_cell Voice h = refl
field_cell (Spectrum k) h = grind (arith, nat_tests)
field_cell (Delay k) h = grind (arith, nat_tests)
field_cell (FilterFlag k) h = grind (arith, nat_tests)
field_cell (Gain k) h = grind (arith, nat_tests)
field_cell (HighBandGain k) h = grind (arith, nat_tests)

pub cell_field : (k : ℕ) → k < 24 → cell_of (field_at k) ≡ k
cell_field k h =
    cond_both (ltb k 1) _ _ (λ x. cell_of x ≡ k) (λ e. grind (arith, nat_tests)) (λ a.
    cond_both (ltb k 8) _ _ (λ x. cell_of x ≡ k) (λ e. grind (arith, nat_tests)) (λ b.
    cond_both (ltb k 12) _ _ (λ x. cell_of x ≡ k) (λ e. grind (arith, nat_tests)) (λ c.
    cond_both (ltb k 16) _ _ (λ x. cell_of x ≡ k) (λ e. grind (arith, nat_tests)) (λ d.
    cond_both (ltb k 20) _ _ (λ x. cell_of x ≡ k) (λ e. grind (arith, nat_tests)) (λ e. grind (arith, nat_tests))))))

pub cell_apart : (x y : Field) → cell_of x < 24 → (y ≡ x → ⊥) → cell_of y ≢ cell_of x
cell_apart x y h ne e =
    let hy : cell_of y < 24 = rw e h in
    ne (sym (field_cell y hy) ∙ ap field_at e ∙ field_cell x h)

pub field_apart : (j k : ℕ) → j < 24 → k < 24 → (j ≡ k → ⊥) → field_at j ≡ field_at k → ⊥
field_apart j k hj hk ne e = ne (sym (cell_field j hj) ∙ ap cell_of e ∙ cell_field k hk)

-- a field that the mode has has a cell
pub width_has : (m : Mode) (x : Field) → 0 < width m x → cell_of x < 24
width_has m Voice h = omega arith
width_has m (Spectrum k) h = ⊎_elim (λ l. grind (arith, nat_tests)) (λ l. absurd (grind (arith, nat_tests))) (cases_lt k 7)
width_has m (Delay s) h = ⊎_elim (λ l. grind (arith, nat_tests)) (λ l. absurd (grind (arith, nat_tests))) (cases_lt s 4)
width_has m (FilterFlag s) h = ⊎_elim (λ l. grind (arith, nat_tests)) (λ l. absurd (grind (arith, nat_tests))) (cases_lt s 4)
width_has m (Gain s) h = ⊎_elim (λ l. grind (arith, nat_tests)) (λ l. absurd (grind (arith, nat_tests))) (cases_lt s 4)
width_has m (HighBandGain s) h = ⊎_elim (λ l. grind (arith, nat_tests)) (λ l. absurd (grind (arith, nat_tests))) (cases_lt s 4)

pub below_from_shr : (v w : ℕ) → v / 2 ^ w ≡ 0 → v < 2 ^ w
below_from_shr v w e = let h = lt-div-mul-add {a = v} {b = 2 ^ w} (pow_pos w) in let g = rw (e, zero-mul, zero-add) at h in g
