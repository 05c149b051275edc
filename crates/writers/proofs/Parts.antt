-- Where the tracks of parts stand, and how shifts and masks cut their indices.
use Rattle.std.proofs.Common.{◌≡◌, ℕ, zero, suc, ◌-◌, ◌*◌, ◌%◌, ◌^◌, ◌<◌, ◌≤◌, bit_and, ap, ◌∙◌, arith, pow_mono}
use Rattle.std.proofs.lemmas.Nat.{and_mask}
use Rattle.pulses.specs.Rules.{bits}
use Rattle.modes.specs.declared.mode.Mode.{Mode}
use Rattle.modes.specs.declared.plan.Part.TheVariants.{High, Low}
use Rattle.modes.specs.Modes.{row, pulses_in}
use Rattle.modes.specs.Plan.{low_bits, part_width}
use Rattle.modes.proofs.Modes.{by_mode, pulses_in_has}
use Rattle.messages.proofs.Building.{low_has, high_has}

-- a track with a part stands in the frame
pub low_there : (m : Mode) (s t : ℕ) → 0 < part_width m (Low s t) → (s < 4) × (t < 4)
low_there m s t h = pulses_in_has m s t (low_has m s t h)

pub high_there : (m : Mode) (s t : ℕ) → 0 < part_width m (High s t) → (s < 4) × (t < 4)
high_there m s t h = pulses_in_has m s t (high_has m s t h)

-- an index has few bits
places_few : (m : Mode) → (row m).places ≤ 5
places_few = by_mode (λ m. (row m).places ≤ 5) (omega arith) (omega arith) (omega arith) (omega arith) (omega arith) (omega arith) (omega arith) (omega arith) (omega arith)

bits_few : (n M : ℕ) → M ≤ 5 → bits n M < 32
bits_few zero M h = omega arith
bits_few (suc zero) M h = omega arith
bits_few (suc (suc zero)) M h = omega arith
bits_few (suc (suc (suc zero))) M h = omega arith
bits_few (suc (suc (suc (suc zero)))) M h = omega arith
bits_few (suc (suc (suc (suc (suc zero))))) M h = omega arith
bits_few (suc (suc (suc (suc (suc (suc zero)))))) M h = omega arith
bits_few (suc (suc (suc (suc (suc (suc (suc n))))))) M h = omega arith

pub low_few : (m : Mode) (s t : ℕ) → low_bits m s t < 32
low_few m s t = omega (arith, bits_few (pulses_in m s t) (row m).places (places_few m))

-- a mask of that many bits
pub masked : (n w : ℕ) → w < 32 → bit_and n (1 * 2 ^ w % 4294967296 - 1) ≡ n % 2 ^ w
masked n w h =
    let low : w ≤ 31 = omega arith in
    let m : 2 ^ w ≤ 2 ^ 31 = pow_mono low in
    let e : 1 * 2 ^ w % 4294967296 ≡ 2 ^ w = omega arith in
    ap (λ k. bit_and n (k - 1)) e ∙ and_mask n w
