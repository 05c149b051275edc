-- The house index of a set, computed: of a half it takes the lowest places. Assumes Pulses. The list is sorted.
--   one_house .. six_house   the house index by that rule
--   house n M ps             the house index of the n pulses ps on a track of width M
use Rattle.std.specs.Prelude.{ℕ, zero, suc, ◌+◌, ◌-◌, ◌*◌, ◌^◌, cond, List, [], ◌∷◌, ◌++◌, length, take, drop, nat_le}
use Rattle.pulses.specs.declared.pulse.Pulse.{Pulse}
use Rattle.pulses.specs.declared.pulse.Sign.{Sign}
use Rattle.pulses.specs.Pulses.{bit, alike, up, half}

unfoldable pub one_house : ℕ → List Pulse → ℕ
one_house M [] = 0
one_house M (p ∷ ps) = p.place + bit p.sign * 2 ^ M

unfoldable pub two_places : ℕ → ℕ → ℕ → Sign → ℕ
two_places M a b s = b + a * 2 ^ M + bit s * 2 ^ (2 * M)

-- of a lower and a higher pulse
unfoldable pub two_rising : ℕ → Pulse → Pulse → ℕ
two_rising M p q =
    cond (alike p.sign q.sign) (two_places M p.place q.place p.sign) (two_places M q.place p.place q.sign)

unfoldable pub two_house : ℕ → List Pulse → ℕ
two_house M [] = 0
two_house M (p ∷ []) = 0
two_house M (p ∷ q ∷ ps) = cond (nat_le p.place q.place) (two_rising M p q) (two_rising M q p)

-- the first half that has n pulses
unfoldable pub fuller : ℕ → ℕ → List Pulse → ℕ
fuller n H ps = cond (nat_le n (length (half H 0 ps))) 0 1

-- all but the lowest n of half h, at their places of the whole
unfoldable pub others : ℕ → ℕ → ℕ → List Pulse → List Pulse
others n H h ps = up (h * 2 ^ H) (drop n (half H h ps)) ++ up ((1 - h) * 2 ^ H) (half H (1 - h) ps)

unfoldable pub three_by : ℕ → ℕ → List Pulse → ℕ
three_by H h ps =
    two_house H (take 2 (half H h ps)) + h * 2 ^ (2 * suc H - 1) + one_house (suc H) (others 2 H h ps) * 2 ^ (2 * suc H)

unfoldable pub three_house : ℕ → List Pulse → ℕ
three_house zero ps = 0
three_house (suc H) ps = three_by H (fuller 2 H ps) ps

unfoldable pub close_by : ℕ → ℕ → List Pulse → ℕ
close_by H h ps =
    two_house H (take 2 (half H h ps)) + h * 2 ^ (2 * suc H - 1) + two_house (suc H) (others 2 H h ps) * 2 ^ (2 * suc H)

unfoldable pub close_house : ℕ → List Pulse → ℕ
close_house zero ps = 0
close_house (suc H) ps = close_by H (fuller 2 H ps) ps

-- by the pulses of half 0 and of half 1, and how many half 0 has
unfoldable pub four_halves : ℕ → ℕ → List Pulse → List Pulse → ℕ
four_halves H zero low high = 0 * 2 ^ (4 * suc H - 2) + (1 * 2 ^ (4 * suc H - 3) + close_house H high)
four_halves H (suc zero) low high = 1 * 2 ^ (4 * suc H - 2) + (one_house H low * 2 ^ (3 * suc H - 2) + three_house H high)
four_halves H (suc (suc zero)) low high = 2 * 2 ^ (4 * suc H - 2) + (two_house H low * 2 ^ (2 * suc H - 1) + two_house H high)
four_halves H (suc (suc (suc zero))) low high = 3 * 2 ^ (4 * suc H - 2) + (three_house H low * 2 ^ suc H + one_house H high)
four_halves H (suc (suc (suc (suc n)))) low high = 0 * 2 ^ (4 * suc H - 2) + (0 * 2 ^ (4 * suc H - 3) + close_house H low)

unfoldable pub four_house : ℕ → List Pulse → ℕ
four_house zero ps = 0
four_house (suc H) ps = four_halves H (length (half H 0 ps)) (half H 0 ps) (half H 1 ps)

unfoldable pub five_by : ℕ → ℕ → List Pulse → ℕ
five_by H h ps =
    h * 2 ^ (5 * suc H - 1) + three_house H (take 3 (half H h ps)) * 2 ^ (2 * suc H + 1) + two_house (suc H) (others 3 H h ps)

unfoldable pub five_house : ℕ → List Pulse → ℕ
five_house zero ps = 0
five_house (suc H) ps = five_by H (fuller 3 H ps) ps

-- by the pulses of the fuller half h and of the other one, and how many that has
unfoldable pub six_halves : ℕ → ℕ → ℕ → List Pulse → List Pulse → ℕ
six_halves H zero h full rest =
    0 * 2 ^ (6 * suc H - 4) + (h * 2 ^ (6 * suc H - 5) + (five_house H (take 5 full) * 2 ^ suc H + one_house H (drop 5 full)))
six_halves H (suc zero) h full rest =
    1 * 2 ^ (6 * suc H - 4) + (h * 2 ^ (6 * suc H - 5) + (five_house H full * 2 ^ suc H + one_house H rest))
six_halves H (suc (suc zero)) h full rest =
    2 * 2 ^ (6 * suc H - 4) + (h * 2 ^ (6 * suc H - 5) + (four_house H full * 2 ^ (2 * suc H - 1) + two_house H rest))
six_halves H (suc (suc (suc n))) h full rest = 3 * 2 ^ (6 * suc H - 4) + (three_house H full * 2 ^ (3 * suc H - 2) + three_house H rest)

unfoldable pub six_house : ℕ → List Pulse → ℕ
six_house zero ps = 0
six_house (suc H) ps =
    let h = fuller 3 H ps in six_halves H (length (half H (1 - h) ps)) h (half H h ps) (half H (1 - h) ps)

abbrev pub house : ℕ → ℕ → List Pulse → ℕ
house zero M ps = 0
house (suc zero) M ps = one_house M ps
house (suc (suc zero)) M ps = two_house M ps
house (suc (suc (suc zero))) M ps = three_house M ps
house (suc (suc (suc (suc zero)))) M ps = four_house M ps
house (suc (suc (suc (suc (suc zero))))) M ps = five_house M ps
house (suc (suc (suc (suc (suc (suc zero)))))) M ps = six_house M ps
house (suc (suc (suc (suc (suc (suc (suc n))))))) M ps = 0
