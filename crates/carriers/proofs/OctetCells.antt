-- What a write to one bit of an octet leaves. Assumes nothing.
use Rattle.std.proofs.Common.{◌≡◌, ℕ, ◌+◌, ◌-◌, ◌*◌, ◌/◌, ◌%◌, ◌^◌, ◌<◌, ◌≤◌, cond, eqb, ◌≢◌, List, length, get_or, set, sym, ap, ◌∙◌, ap₂, inl, inr, add-zero, mod-eq_of_lt, mul_comm, arith, get_or-set_other, get_or-set_same, pow-add, shr-shr, shr_lt}
use native.Mathlib.Nat.{mul-sub, mod-mod}
use lib.Bits.{bit_and, bit_or, and_block, and_mask, and_high, or_block, or_step, or_zero_r}
use lib.Pow.{high, low, field, mod-mod-pow}
use Rattle.std.proofs.lemmas.Nat.{mod_below, pow_pos, one_shl, mul-le, div-add-mod'}
use Rattle.std.proofs.lemmas.Bool.{cases_order, cases_eq}
use Rattle.carriers.specs.declared.bit.Bit.{Bit}
use Rattle.carriers.specs.declared.bit.Bit.TheVariants.{Zero, One}
use Rattle.carriers.specs.Bits.{bit_of, bit_value}
use Rattle.carriers.specs.Cells.{bit}
use Rattle.carriers.specs.Octets.{octet_at}
use Rattle.carriers.specs.WithBit.{with_bit}
use Rattle.carriers.proofs.BitValues.{value_below, bit_last}

module _ (o p : ℕ) (b : Bit) where
  with_high : with_bit o p b / 2 ^ p ≡ o / 2 ^ p / 2 * 2 + bit_value b
  unfolding with_bit
  with_high = high (o / 2 ^ p / 2 * 2 + bit_value b) p (mod_below o (2 ^ p) (pow_pos p))

  with_low : with_bit o p b % 2 ^ p ≡ o % 2 ^ p
  unfolding with_bit
  with_low = low (o / 2 ^ p / 2 * 2 + bit_value b) p (mod_below o (2 ^ p) (pow_pos p))

-- `o & !(1 << p)`
pub clear_bit : (o p : ℕ) → o < 256 → p < 8 → bit_and o (255 - (1 * 2 ^ p) % 256) ≡ with_bit o p Zero
unfolding with_bit
clear_bit o p small within =
    let j : ℕ = 7 - p in
    let eight : j + 1 + p ≡ 8 = omega arith in
    let total : 2 ^ (j + 1) * 2 ^ p ≡ 256 = sym (pow-add 2 (j + 1) p) ∙ ap (λ (k : ℕ). 2 ^ k) eight in
    let mask : (1 * 2 ^ p) % 256 ≡ 2 ^ p = one_shl p 8 within in
    let most : 2 ^ (j + 1) ≡ 2 ^ j * 2 = pow-add 2 j 1 in
    let pos : 0 < 2 ^ j = pow_pos j in
    let posp : 0 < 2 ^ p = pow_pos p in
    let parts : (2 ^ (j + 1) - 2) * 2 ^ p ≡ 2 ^ (j + 1) * 2 ^ p - 2 * 2 ^ p = mul_comm (2 ^ (j + 1) - 2) (2 ^ p) ∙ mul-sub (2 ^ p) (2 ^ (j + 1)) 2 ∙ ap₂ (λ (m n : ℕ). m - n) (mul_comm (2 ^ p) (2 ^ (j + 1))) (mul_comm (2 ^ p) 2) in
    let half : 2 * 2 ^ p ≤ 2 ^ (j + 1) * 2 ^ p = mul-le 2 (2 ^ p) (2 ^ (j + 1)) (2 ^ p) (omega arith) (omega arith) in
    let kept : 255 - (1 * 2 ^ p) % 256 ≡ (2 ^ (j + 1) - 2) * 2 ^ p + (2 ^ p - 1) = omega arith in
    let bound : o / 2 ^ p / 2 < 2 ^ j = rw (shr-shr o p 1) (shr_lt j (p + 1) (let e : j + (p + 1) ≡ 8 = omega arith in rw e small)) in
    let top : bit_and (o / 2 ^ p) (2 ^ (j + 1) - 2) ≡ o / 2 ^ p / 2 * 2 = and_high (o / 2 ^ p) j 1 ∙ ap (λ (n : ℕ). n * 2) (mod-eq_of_lt bound) in
    let rest : bit_and (o % 2 ^ p) (2 ^ p - 1) ≡ o % 2 ^ p = and_mask (o % 2 ^ p) p ∙ mod-mod o (2 ^ p) in
    ap (bit_and o) kept
    ∙ ap (λ (n : ℕ). bit_and n ((2 ^ (j + 1) - 2) * 2 ^ p + (2 ^ p - 1))) (sym (div-add-mod' o (2 ^ p)))
    ∙ and_block p (o / 2 ^ p) (2 ^ (j + 1) - 2) (o % 2 ^ p) (2 ^ p - 1) (mod_below o (2 ^ p) posp) (omega arith)
    ∙ ap₂ (λ (m n : ℕ). m * 2 ^ p + n) (top ∙ sym (add-zero (o / 2 ^ p / 2 * 2))) rest

-- `o | (1 << p)`
pub set_bit : (o p : ℕ) → p < 8 → bit_or o ((1 * 2 ^ p) % 256) ≡ with_bit o p One
unfolding with_bit
set_bit o p within =
    let posp : 0 < 2 ^ p = pow_pos p in
    let mask : (1 * 2 ^ p) % 256 ≡ 1 * 2 ^ p + 0 = one_shl p 8 within ∙ omega arith in
    let top : bit_or (o / 2 ^ p) 1 ≡ o / 2 ^ p / 2 * 2 + 1 = or_step (o / 2 ^ p) 1 ∙ ap₂ (λ (m n : ℕ). m * 2 + n) (or_zero_r (o / 2 ^ p / 2)) (omega arith) in
    ap (bit_or o) mask
    ∙ ap (λ (n : ℕ). bit_or n (1 * 2 ^ p + 0)) (sym (div-add-mod' o (2 ^ p)))
    ∙ or_block p (o / 2 ^ p) 1 (o % 2 ^ p) 0 (mod_below o (2 ^ p) posp) posp
    ∙ ap₂ (λ (m n : ℕ). m * 2 ^ p + n) top (or_zero_r (o % 2 ^ p))

pub with_same : (o p : ℕ) (b : Bit) → bit_of (with_bit o p b / 2 ^ p) ≡ b
with_same o p b = rw (with_high o p b) (ap (λ (n : ℕ). bit_of (n + bit_value b)) (mul_comm (o / 2 ^ p / 2) 2) ∙ bit_last b (o / 2 ^ p / 2))

-- a bit above
with_above : (o p j : ℕ) (b : Bit) → with_bit o p b / 2 ^ (p + (1 + j)) ≡ o / 2 ^ (p + (1 + j))
with_above o p j b =
    let v = value_below b in
    let half : (o / 2 ^ p / 2 * 2 + bit_value b) / 2 ≡ o / 2 ^ p / 2 = omega arith in
    let one : (n : ℕ) → n / 2 ^ (p + (1 + j)) ≡ n / 2 ^ p / 2 / 2 ^ j = λ n. sym (shr-shr n p (1 + j)) ∙ sym (shr-shr (n / 2 ^ p) 1 j) in
    one (with_bit o p b) ∙ ap (λ (n : ℕ). n / 2 / 2 ^ j) (with_high o p b) ∙ ap (λ (n : ℕ). n / 2 ^ j) half ∙ sym (one o)

-- a bit below
with_below : (o q j : ℕ) (b : Bit) → with_bit o (j + (1 + q)) b / 2 ^ q % 2 ≡ o / 2 ^ q % 2
with_below o q j b =
    let one : (n : ℕ) → n / 2 ^ q % 2 ≡ n % 2 ^ (j + (1 + q)) % 2 ^ (1 + q) / 2 ^ q = λ n. sym (field n 1 q) ∙ ap (λ (m : ℕ). m / 2 ^ q) (sym (mod-mod-pow n j (1 + q))) in
    one (with_bit o (j + (1 + q)) b) ∙ ap (λ (m : ℕ). m % 2 ^ (1 + q) / 2 ^ q) (with_low o (j + (1 + q)) b) ∙ sym (one o)

pub with_other : (o p q : ℕ) (b : Bit) → q ≢ p → bit_of (with_bit o p b / 2 ^ q) ≡ bit_of (o / 2 ^ q)
with_other o p q b ne =
    elim (cases_order q p) [
      | inl e ↦ absurd (ne e)
      | inr (inl l) ↦ let e : p ≡ (p - q - 1) + (1 + q) = omega arith in ap (λ (n : ℕ). cond (eqb n 0) Zero One) (rw e (with_below o q (p - q - 1) b))
      | inr (inr l) ↦ let e : q ≡ p + (1 + (q - p - 1)) = omega arith in rw e (ap bit_of (with_above o p (q - p - 1) b))
    ]

-- an octet in its place: the place that is put holds the bit
pub octet_here : (os : List ℕ) (at octet : ℕ) (b : Bit) → octet ≡ with_bit (get_or os (at / 8) 0) (7 - at % 8) b → at < 8 * length os → octet_at (set os (at / 8) octet) at ≡ bit b
octet_here os at octet b is h =
    let within : at / 8 < length os = omega arith in
    ap (λ (x : ℕ). bit (bit_of (x / 2 ^ (7 - at % 8)))) (get_or-set_same os (at / 8) octet 0 within ∙ is)
    ∙ ap bit (with_same (get_or os (at / 8) 0) (7 - at % 8) b)

-- and every other place what it held
pub octet_others : (os : List ℕ) (at octet i : ℕ) (b : Bit) → octet ≡ with_bit (get_or os (at / 8) 0) (7 - at % 8) b → at < 8 * length os → i ≢ at → octet_at (set os (at / 8) octet) i ≡ octet_at os i
octet_others os at octet i b is h other =
    let within : at / 8 < length os = omega arith in
    let here : get_or (set os (at / 8) octet) (at / 8) 0 ≡ octet = get_or-set_same os (at / 8) octet 0 within in
    elim (cases_eq (i / 8) (at / 8)) [
      | inl e ↦
          let ne : 7 - i % 8 ≢ 7 - at % 8 = λ p. other (let q : i ≡ at = omega arith in q) in
          rw e (ap (λ (x : ℕ). bit (bit_of (x / 2 ^ (7 - i % 8)))) (here ∙ is) ∙ ap bit (with_other (get_or os (at / 8) 0) (7 - at % 8) (7 - i % 8) b ne))
      | inr ne ↦ ap (λ (x : ℕ). bit (bit_of (x / 2 ^ (7 - i % 8)))) (get_or-set_other os (at / 8) (i / 8) octet 0 ne)
    ]
