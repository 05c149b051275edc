-- The last bit of a number, and the rest of it. Assumes nothing.
use Rattle.std.proofs.Common.{◌≡◌, ℕ, ◌+◌, ◌*◌, ◌/◌, ◌%◌, ◌<◌, inl, inr, arith}
use Rattle.std.proofs.lemmas.Bool.{cases_lt}
use Rattle.carriers.specs.declared.bit.Bit.{Bit}
use Rattle.carriers.specs.declared.bit.Bit.TheVariants.{Zero, One}
use Rattle.carriers.specs.Bits.{bit_of, bit_value}

pub value_below : (b : Bit) → bit_value b < 2
value_below Zero = omega arith
value_below One = omega arith

pub bit_value_lem : (x : ℕ) → 2 * (x / 2) + bit_value (bit_of x) ≡ x
bit_value_lem x =
    elim (cases_lt (x % 2) 1) [
      | inl h ↦ let e : x % 2 ≡ 0 = omega arith in rw e (omega arith)
      | inr h ↦ let e : x % 2 ≡ 1 = omega arith in rw e (omega arith)
    ]

pub bit_last : (b : Bit) (a : ℕ) → bit_of (2 * a + bit_value b) ≡ b
bit_last Zero a = let e : (2 * a + 0) % 2 ≡ 0 = omega arith in rw e
bit_last One a = let e : (2 * a + 1) % 2 ≡ 1 = omega arith in rw e
