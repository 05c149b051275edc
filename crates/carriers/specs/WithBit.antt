-- An octet with one of its bits set. Assumes Bits.
--   with_bit o p b   the octet o with its bit of weight 2^p set to b, and every other bit kept
use Rattle.std.specs.Prelude.{ℕ, ◌+◌, ◌*◌, ◌/◌, ◌%◌, ◌^◌}
use Rattle.carriers.specs.declared.bit.Bit.{Bit}
use Rattle.carriers.specs.Bits.{bit_value}

unfoldable pub with_bit : ℕ → ℕ → Bit → ℕ
with_bit o p b = (o / 2 ^ p / 2 * 2 + bit_value b) * 2 ^ p + o % 2 ^ p
