-- The delays of a frame. Assumes Modes, Fields, Frames. A sample is 78.125 microseconds.
--   long_delay w d    the quarter samples of a delay field of 8 or 9 bits
--   held low high n   n, held within low to high
--   short_base q      the whole sample from which the short fields after the long delay q count
--   step w            the quarter samples of a step of a short field
--   last_long m s     the last subframe up to s whose delay has 8 or 9 bits
--   long_before m s   the same for s below 4, by mode
--   delay f s         the delay of subframe s, in quarter samples
--   microseconds q    q quarter samples in microseconds, cut off
use Rattle.std.specs.Prelude.{ℕ, zero, suc, ◌+◌, ◌-◌, ◌*◌, ◌/◌, ◌%◌, cond, ◌==◌, nat_le, nat_lt}
use Rattle.modes.specs.declared.mode.Mode.{Mode}
use Rattle.modes.specs.declared.mode.Mode.TheVariants.{Rate6k60, Rate8k85, Rate12k65, Rate14k25, Rate15k85, Rate18k25, Rate19k85, Rate23k05, Rate23k85}
use Rattle.frames.specs.declared.frame.Frame.{Frame}
use Rattle.modes.specs.declared.field.Field.TheVariants.{Delay}
use Rattle.modes.specs.Fields.{width}
use Rattle.frames.specs.Frames.{value, field_bits}

abbrev pub long_delay : ℕ → ℕ → ℕ
long_delay w d =
    cond (w == 8)
    (cond (nat_lt d 116) (136 + 2 * d) (4 * (d - 24)))
    (cond (nat_lt d 376) (136 + d) (cond (nat_lt d 440) (512 + 2 * (d - 376)) (4 * (d - 280))))

abbrev pub held : ℕ → ℕ → ℕ → ℕ
held low high n = cond (nat_lt n low) low (cond (nat_lt high n) high n)

-- eight below the whole number nearest q / 4, halves up
abbrev pub short_base : ℕ → ℕ
short_base q = held 34 216 ((q + 2) / 4 - 8)

abbrev pub step : ℕ → ℕ
step w = cond (w == 5) 2 1

abbrev pub last_long : Mode → ℕ → ℕ
last_long m zero = 0
last_long m (suc s) = cond (nat_le 8 (width m (Delay (suc s)))) (suc s) (last_long m s)

-- the same, by mode: in mode 0 the first subframe, else the first of each pair
abbrev pub long_before : Mode → ℕ → ℕ
long_before Rate6k60 s = 0
long_before Rate8k85 s = s - s % 2
long_before Rate12k65 s = s - s % 2
long_before Rate14k25 s = s - s % 2
long_before Rate15k85 s = s - s % 2
long_before Rate18k25 s = s - s % 2
long_before Rate19k85 s = s - s % 2
long_before Rate23k05 s = s - s % 2
long_before Rate23k85 s = s - s % 2

unfoldable pub delay : Frame → ℕ → ℕ
delay f s =
    let l = last_long f.mode s in
    let q = long_delay (field_bits f (Delay l)) (value f (Delay l)) in
    cond (l == s) q (4 * short_base q + step (field_bits f (Delay s)) * value f (Delay s))

abbrev pub microseconds : ℕ → ℕ
microseconds q = q * 625 / 32
