-- What a bit stands for. Assumes nothing.
--   bit_value b   the number that the bit b stands for
--   bit_of n      the last bit of the number n
use Rattle.std.specs.Prelude.{ℕ, ◌%◌, cond, ◌==◌}
use Rattle.carriers.specs.declared.bit.Bit.{Bit}
use Rattle.carriers.specs.declared.bit.Bit.TheVariants.{Zero, One}

abbrev pub bit_value : Bit → ℕ
bit_value Zero = 0
bit_value One = 1

abbrev pub bit_of : ℕ → Bit
bit_of n = cond (n % 2 == 0) Zero One
