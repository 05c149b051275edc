-- A record of nothing is lawful in each mode.
use Rattle.std.proofs.Common.{◌≡◌, ℕ, zero, suc, ◌+◌, ◌*◌, ◌^◌, ◌<◌, ◌≤◌, List, [], length, get_or, take, replicate, refl, ap, ◌∙◌, ⊎_elim, arith, pow_pos}
use Rattle.std.proofs.lemmas.List.{take-replicate}
use Rattle.std.proofs.lemmas.Bool.{cases_lt}
use Rattle.pulses.specs.declared.pulse.Pulse.{Pulse}
use Rattle.pulses.specs.Sets.{none, apart}
use Rattle.modes.specs.declared.mode.Mode.{Mode}
use Rattle.modes.specs.Modes.{pulses_in}
use Rattle.frames.specs.Lawful.{pulse_at, Long}
use Rattle.modes.proofs.Modes.{pulses_in_few, pulses_in_has}

pub replicate_at : {X : Type 0} (n k : ℕ) (a : X) → get_or (replicate n a) k a ≡ a
replicate_at zero k a = refl
replicate_at (suc n) zero a = refl
replicate_at (suc n) (suc k) a = replicate_at n k a

abbrev pub nothing : List (List Pulse)
nothing = replicate 16 (replicate 6 none)

rows_at : (n i k : ℕ) → pulse_at (replicate n (replicate 6 none)) i k ≡ none
rows_at zero i k = refl
rows_at (suc n) zero k = replicate_at 6 k none
rows_at (suc n) (suc i) k = rows_at n i k

row_at : (n i : ℕ) → i < n → get_or (replicate n (replicate 6 none)) i [] ≡ replicate 6 none
row_at zero i h = absurd (omega arith)
row_at (suc n) zero h = refl
row_at (suc n) (suc i) h = row_at n i (omega arith)

-- of each width, and so of each mode
pub blank_fit : (width : ℕ → ℕ) (k : ℕ) → get_or (replicate 24 0) k 0 < 2 ^ width k
blank_fit width k = rw (replicate_at {X = ℕ} 24 k 0) (pow_pos (width k))

pub blank_on : (places i k : ℕ) → 0 < places → (pulse_at nothing i k).place < places
blank_on places i k h = rw (rows_at 16 i k) h

pub blank_rising : (i k : ℕ) → (pulse_at nothing i k).place + apart (pulse_at nothing i k) (pulse_at nothing i (k + 1)) ≤ (pulse_at nothing i (k + 1)).place
unfolding apart
blank_rising i k = rw (rows_at 16 i k, rows_at 16 i (k + 1)) (omega arith)

pub blank_padded : (i k : ℕ) → pulse_at nothing i k ≡ none
blank_padded i k = rows_at 16 i k

pub blank_long : Long nothing
blank_long i h = ap length (row_at 16 i h)

pub blank_track : (m : Mode) (s t : ℕ) → take (pulses_in m s t) (get_or nothing (4 * s + t) []) ≡ replicate (pulses_in m s t) none
blank_track m s t =
    ⊎_elim
    (λ h. let l = pulses_in_has m s t h in
    ap (take (pulses_in m s t)) (row_at 16 (4 * s + t) (omega (arith, l))) ∙ take-replicate (pulses_in m s t) 6 none (pulses_in_few m s t))
    (λ z. let e : pulses_in m s t ≡ 0 = omega arith in rw e)
    (cases_lt 0 (pulses_in m s t))
