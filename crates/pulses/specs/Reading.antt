-- What an index is read as: the rules undone, group after group. Assumes Pulses.
--   sign_of b          the sign whose bit is b
--   one_of .. six_of   the pulses of an index by that rule
--   pulses_of n M i    the pulses of the index i of n pulses on a track of width M
use Rattle.std.specs.Prelude.{ℕ, zero, suc, ◌+◌, ◌-◌, ◌*◌, ◌/◌, ◌%◌, ◌^◌, cond, List, [], ◌∷◌, ◌++◌, ◌==◌, nat_le}
use Rattle.pulses.specs.declared.pulse.Pulse.{Pulse}
use Rattle.pulses.specs.declared.pulse.Sign.{Sign}
use Rattle.pulses.specs.declared.pulse.Sign.TheVariants.{Plus, Minus}
use Rattle.pulses.specs.Pulses.{pulse, opposite, up}

abbrev pub sign_of : ℕ → Sign
sign_of b = cond (b == 1) Minus Plus

unfoldable pub one_of : ℕ → ℕ → List Pulse
one_of M i = pulse (i % 2 ^ M) (sign_of (i / 2 ^ M)) ∷ []

-- the places a and b, and the sign of a
unfoldable pub pair_of : ℕ → ℕ → Sign → List Pulse
pair_of a b s = pulse a s ∷ pulse b (cond (nat_le a b) s (opposite s)) ∷ []

unfoldable pub two_of : ℕ → ℕ → List Pulse
two_of M i = pair_of (i / 2 ^ M % 2 ^ M) (i % 2 ^ M) (sign_of (i / 2 ^ (2 * M)))

unfoldable pub three_of : ℕ → ℕ → List Pulse
three_of zero i = []
three_of (suc H) i =
    up (i / 2 ^ (2 * suc H - 1) % 2 * 2 ^ H) (two_of H (i % 2 ^ (2 * suc H - 1))) ++ one_of (suc H) (i / 2 ^ (2 * suc H))

unfoldable pub close_of : ℕ → ℕ → List Pulse
close_of zero i = []
close_of (suc H) i =
    up (i / 2 ^ (2 * suc H - 1) % 2 * 2 ^ H) (two_of H (i % 2 ^ (2 * suc H - 1))) ++ two_of (suc H) (i / 2 ^ (2 * suc H))

-- H is the width of a half, c the number before the body b
unfoldable pub four_by : ℕ → ℕ → ℕ → List Pulse
four_by H zero b = up (b / 2 ^ (4 * suc H - 3) * 2 ^ H) (close_of H (b % 2 ^ (4 * suc H - 3)))
four_by H (suc zero) b = one_of H (b / 2 ^ (3 * suc H - 2)) ++ up (2 ^ H) (three_of H (b % 2 ^ (3 * suc H - 2)))
four_by H (suc (suc zero)) b = two_of H (b / 2 ^ (2 * suc H - 1)) ++ up (2 ^ H) (two_of H (b % 2 ^ (2 * suc H - 1)))
four_by H (suc (suc (suc n))) b = three_of H (b / 2 ^ suc H) ++ up (2 ^ H) (one_of H (b % 2 ^ suc H))

unfoldable pub four_of : ℕ → ℕ → List Pulse
four_of zero i = []
four_of (suc H) i = four_by H (i / 2 ^ (4 * suc H - 2)) (i % 2 ^ (4 * suc H - 2))

unfoldable pub five_of : ℕ → ℕ → List Pulse
five_of zero i = []
five_of (suc H) i =
    up (i / 2 ^ (5 * suc H - 1) % 2 * 2 ^ H) (three_of H (i / 2 ^ (2 * suc H + 1) % 2 ^ (3 * suc H - 2)))
    ++ two_of (suc H) (i % 2 ^ (2 * suc H + 1))

-- h is the fuller half, r the rest
unfoldable pub six_uneven : ℕ → ℕ → ℕ → ℕ → List Pulse
six_uneven H zero h r = up (h * 2 ^ H) (five_of H (r / 2 ^ suc H)) ++ up (h * 2 ^ H) (one_of H (r % 2 ^ suc H))
six_uneven H (suc zero) h r = up (h * 2 ^ H) (five_of H (r / 2 ^ suc H)) ++ up ((1 - h) * 2 ^ H) (one_of H (r % 2 ^ suc H))
six_uneven H (suc (suc n)) h r =
    up (h * 2 ^ H) (four_of H (r / 2 ^ (2 * suc H - 1))) ++ up ((1 - h) * 2 ^ H) (two_of H (r % 2 ^ (2 * suc H - 1)))

unfoldable pub six_by : ℕ → ℕ → ℕ → List Pulse
six_by H zero b = six_uneven H 0 (b / 2 ^ (6 * suc H - 5)) (b % 2 ^ (6 * suc H - 5))
six_by H (suc zero) b = six_uneven H 1 (b / 2 ^ (6 * suc H - 5)) (b % 2 ^ (6 * suc H - 5))
six_by H (suc (suc zero)) b = six_uneven H 2 (b / 2 ^ (6 * suc H - 5)) (b % 2 ^ (6 * suc H - 5))
six_by H (suc (suc (suc n))) b = three_of H (b / 2 ^ (3 * suc H - 2)) ++ up (2 ^ H) (three_of H (b % 2 ^ (3 * suc H - 2)))

unfoldable pub six_of : ℕ → ℕ → List Pulse
six_of zero i = []
six_of (suc H) i = six_by H (i / 2 ^ (6 * suc H - 4)) (i % 2 ^ (6 * suc H - 4))

abbrev pub pulses_of : ℕ → ℕ → ℕ → List Pulse
pulses_of zero M i = []
pulses_of (suc zero) M i = one_of M i
pulses_of (suc (suc zero)) M i = two_of M i
pulses_of (suc (suc (suc zero))) M i = three_of M i
pulses_of (suc (suc (suc (suc zero)))) M i = four_of M i
pulses_of (suc (suc (suc (suc (suc zero))))) M i = five_of M i
pulses_of (suc (suc (suc (suc (suc (suc zero)))))) M i = six_of M i
pulses_of (suc (suc (suc (suc (suc (suc (suc n))))))) M i = []
