-- Every number in bounds is the index of what is read from it.
use Rattle.std.proofs.Common.{◌≡◌, ℕ, zero, suc, ◌+◌, ◌-◌, ◌*◌, ◌/◌, ◌%◌, ◌^◌, ◌<◌, ◌≤◌, ◌++◌, refl, ap, ◌∙◌, subst, ⊎_elim, mod-eq_of_lt, arith}
use Rattle.pulses.specs.declared.pulse.Sign.{Sign}
use Rattle.std.proofs.lemmas.Bool.{cases_lt}
use Rattle.pulses.specs.Pulses.{bit, up}
use Rattle.pulses.specs.Rules.{Choice, One, Two, Three, Close, Four, Five, Six}
use Rattle.pulses.specs.Reading.{sign_of, one_of, pair_of, two_of, three_of, close_of, four_of, five_of, six_of, four_by, six_by, six_uneven}
use Rattle.pulses.proofs.Cuts.{split2, split3}
use Rattle.pulses.proofs.Tallies.{same_from, same_refl}
use Rattle.pulses.proofs.ReadBack.{pair_rising, pair_falling}

bit_sign : (n : ℕ) → n < 2 → bit (sign_of n) ≡ n
bit_sign zero h = refl
bit_sign (suc zero) h = refl
bit_sign (suc (suc n)) h = absurd (omega arith)

pub one_every : (M b i : ℕ) → b ≡ M + 1 → i < 2 ^ b → One M (one_of M i) i
unfolding one_of
one_every M b i e h =
    let c = split2 1 M b i (omega arith) h in
    let is : i % 2 ^ M + bit (sign_of (i / 2 ^ M)) * 2 ^ M ≡ i = omega (arith, ap (λ z. z * 2 ^ M) (bit_sign (i / 2 ^ M) c.high), c.is) in
    let P : ℕ → Type 0 = λ z. One M (one_of M i) z in
    subst P is (One.one M (i % 2 ^ M) (sign_of (i / 2 ^ M)) (one_of M i) c.low (same_refl (one_of M i)))

pair_every : (M a b : ℕ) (s : Sign) → a < 2 ^ M → b < 2 ^ M → Two M (pair_of a b s) (b + a * 2 ^ M + bit s * 2 ^ (2 * M))
pair_every M a b s h k =
    ⊎_elim (λ l. Two.unequal M a b s _ h k l (same_from _ _ (pair_falling a b s l)))
    (λ l. Two.equal M a b s _ h k l (same_from _ _ (pair_rising a b s l))) (cases_lt b a)

pub two_every : (M b i : ℕ) → b ≡ 2 * M + 1 → i < 2 ^ b → Two M (two_of M i) i
unfolding two_of
two_every M b i e h =
    let c = split3 M M 1 (2 * M) b i (omega arith) (omega arith) h in
    let is = ap (λ z. i % 2 ^ M + i / 2 ^ M % 2 ^ M * 2 ^ M + z * 2 ^ (2 * M)) (bit_sign (i / 2 ^ (2 * M)) c.high) ∙ c.is in
    let P : ℕ → Type 0 = λ z. Two M (two_of M i) z in
    subst P is (pair_every M (i / 2 ^ M % 2 ^ M) (i % 2 ^ M) (sign_of (i / 2 ^ (2 * M))) c.mid c.low)

pub three_every : (M b i : ℕ) → 1 ≤ M → b ≡ 3 * M + 1 → i < 2 ^ b → Three Choice.free M (three_of M i) i
unfolding three_of
three_every zero b i w e h = absurd (omega arith)
three_every (suc H) b i w e h =
    let c = split3 (2 * suc H - 1) 1 (suc H + 1) (2 * suc H) b i (omega arith) (omega arith) h in
    let P : ℕ → Type 0 = λ z. Three Choice.free (suc H) (three_of (suc H) i) z in
    subst P c.is
    (Three.three H _ _ _ (three_of (suc H) i) (two_of H (i % 2 ^ (2 * suc H - 1))) (one_of (suc H) (i / 2 ^ (2 * suc H))) c.mid
    (same_refl (three_of (suc H) i)) tt (two_every H (2 * suc H - 1) _ (omega arith) c.low) (one_every (suc H) (suc H + 1) _ (omega arith) c.high))

pub close_every : (M b i : ℕ) → 1 ≤ M → b ≡ 4 * M + 1 → i < 2 ^ b → Close Choice.free M (close_of M i) i
unfolding close_of
close_every zero b i w e h = absurd (omega arith)
close_every (suc H) b i w e h =
    let c = split3 (2 * suc H - 1) 1 (2 * suc H + 1) (2 * suc H) b i (omega arith) (omega arith) h in
    let P : ℕ → Type 0 = λ z. Close Choice.free (suc H) (close_of (suc H) i) z in
    subst P c.is
    (Close.close H _ _ _ (close_of (suc H) i) (two_of H (i % 2 ^ (2 * suc H - 1))) (two_of (suc H) (i / 2 ^ (2 * suc H))) c.mid
    (same_refl (close_of (suc H) i)) tt tt (two_every H (2 * suc H - 1) _ (omega arith) c.low) (two_every (suc H) (2 * suc H + 1) _ (omega arith) c.high))

four_every_by : (H c b : ℕ) → 1 ≤ H → c < 4 → b < 2 ^ (4 * suc H - 2) → Four Choice.free (suc H) (four_by H c b) (c * 2 ^ (4 * suc H - 2) + b)
unfolding four_by
four_every_by H zero b w k h =
    let c = split2 1 (4 * suc H - 3) (4 * suc H - 2) b (omega arith) h in
    let P : ℕ → Type 0 = λ z. Four Choice.free (suc H) (four_by H 0 b) (0 * 2 ^ (4 * suc H - 2) + z) in
    subst P c.is
    (Four.all_in H _ _ (four_by H 0 b) (close_of H (b % 2 ^ (4 * suc H - 3))) c.high (same_refl (four_by H 0 b))
    (close_every H (4 * suc H - 3) _ w (omega arith) c.low))
four_every_by H (suc zero) b w k h =
    let c = split2 (suc H) (3 * suc H - 2) (4 * suc H - 2) b (omega arith) h in
    let P : ℕ → Type 0 = λ z. Four Choice.free (suc H) (four_by H 1 b) (1 * 2 ^ (4 * suc H - 2) + z) in
    subst P c.is
    (Four.one_three H _ _ (four_by H 1 b) (one_of H (b / 2 ^ (3 * suc H - 2))) (three_of H (b % 2 ^ (3 * suc H - 2))) (same_refl (four_by H 1 b))
    (one_every H (suc H) _ (omega arith) c.high) (three_every H (3 * suc H - 2) _ w (omega arith) c.low))
four_every_by H (suc (suc zero)) b w k h =
    let c = split2 (2 * suc H - 1) (2 * suc H - 1) (4 * suc H - 2) b (omega arith) h in
    let P : ℕ → Type 0 = λ z. Four Choice.free (suc H) (four_by H 2 b) (2 * 2 ^ (4 * suc H - 2) + z) in
    subst P c.is
    (Four.two_two H _ _ (four_by H 2 b) (two_of H (b / 2 ^ (2 * suc H - 1))) (two_of H (b % 2 ^ (2 * suc H - 1))) (same_refl (four_by H 2 b))
    (two_every H (2 * suc H - 1) _ (omega arith) c.high) (two_every H (2 * suc H - 1) _ (omega arith) c.low))
four_every_by H (suc (suc (suc zero))) b w k h =
    let c = split2 (3 * suc H - 2) (suc H) (4 * suc H - 2) b (omega arith) h in
    let P : ℕ → Type 0 = λ z. Four Choice.free (suc H) (four_by H 3 b) (3 * 2 ^ (4 * suc H - 2) + z) in
    subst P c.is
    (Four.three_one H _ _ (four_by H 3 b) (three_of H (b / 2 ^ suc H)) (one_of H (b % 2 ^ suc H)) (same_refl (four_by H 3 b))
    (three_every H (3 * suc H - 2) _ w (omega arith) c.high) (one_every H (suc H) _ (omega arith) c.low))
four_every_by H (suc (suc (suc (suc n)))) b w k h = absurd (omega arith)

pub four_every : (M b i : ℕ) → 2 ≤ M → b ≡ 4 * M → i < 2 ^ b → Four Choice.free M (four_of M i) i
unfolding four_of
four_every zero b i w e h = absurd (omega arith)
four_every (suc H) b i w e h =
    let c = split2 2 (4 * suc H - 2) b i (omega arith) h in
    let P : ℕ → Type 0 = λ z. Four Choice.free (suc H) (four_of (suc H) i) z in
    subst P c.is (four_every_by H _ _ (omega arith) c.high c.low)

pub five_every : (M b i : ℕ) → 2 ≤ M → b ≡ 5 * M → i < 2 ^ b → Five Choice.free M (five_of M i) i
unfolding five_of
five_every zero b i w e h = absurd (omega arith)
five_every (suc H) b i w e h =
    let c = split3 (2 * suc H + 1) (3 * suc H - 2) 1 (5 * suc H - 1) b i (omega arith) (omega arith) h in
    let hi = i / 2 ^ (5 * suc H - 1) in
    let mi = i / 2 ^ (2 * suc H + 1) % 2 ^ (3 * suc H - 2) in
    let lo = i % 2 ^ (2 * suc H + 1) in
    let is : hi * 2 ^ (5 * suc H - 1) + mi * 2 ^ (2 * suc H + 1) + lo ≡ i = omega (arith, c.is) in
    let P : ℕ → Type 0 = λ z. Five Choice.free (suc H) (five_of (suc H) i) z in
    subst P is
    (Five.five H hi mi lo (five_of (suc H) i) (three_of H mi) (two_of (suc H) lo) c.high
    (same_from _ _ (ap (λ z. up (z * 2 ^ H) (three_of H mi) ++ two_of (suc H) lo) (mod-eq_of_lt c.high))) tt
    (three_every H (3 * suc H - 2) mi (omega arith) (omega arith) c.mid) (two_every (suc H) (2 * suc H + 1) lo (omega arith) c.low))

-- H is the width of a half, r the rest after the fuller half h
six_uneven_every : (H c h r : ℕ) → 2 ≤ H → c < 3 → h < 2 → r < 2 ^ (6 * suc H - 5)
    → Six Choice.free (suc H) (six_uneven H c h r) (c * 2 ^ (6 * suc H - 4) + (h * 2 ^ (6 * suc H - 5) + r))
unfolding six_uneven
six_uneven_every H zero h r w k b l =
    let c = split2 (5 * H) (suc H) (6 * suc H - 5) r (omega arith) l in
    let P : ℕ → Type 0 = λ z. Six Choice.free (suc H) (six_uneven H 0 h r) (0 * 2 ^ (6 * suc H - 4) + (h * 2 ^ (6 * suc H - 5) + z)) in
    subst P c.is
    (Six.none H h _ _ (six_uneven H 0 h r) (five_of H (r / 2 ^ suc H)) (one_of H (r % 2 ^ suc H)) b (same_refl (six_uneven H 0 h r)) tt
    (five_every H (5 * H) _ w refl c.high) (one_every H (suc H) _ (omega arith) c.low))
six_uneven_every H (suc zero) h r w k b l =
    let c = split2 (5 * H) (suc H) (6 * suc H - 5) r (omega arith) l in
    let P : ℕ → Type 0 = λ z. Six Choice.free (suc H) (six_uneven H 1 h r) (1 * 2 ^ (6 * suc H - 4) + (h * 2 ^ (6 * suc H - 5) + z)) in
    subst P c.is
    (Six.single H h _ _ (six_uneven H 1 h r) (five_of H (r / 2 ^ suc H)) (one_of H (r % 2 ^ suc H)) b (same_refl (six_uneven H 1 h r))
    (five_every H (5 * H) _ w refl c.high) (one_every H (suc H) _ (omega arith) c.low))
six_uneven_every H (suc (suc zero)) h r w k b l =
    let c = split2 (4 * H) (2 * suc H - 1) (6 * suc H - 5) r (omega arith) l in
    let P : ℕ → Type 0 = λ z. Six Choice.free (suc H) (six_uneven H 2 h r) (2 * 2 ^ (6 * suc H - 4) + (h * 2 ^ (6 * suc H - 5) + z)) in
    subst P c.is
    (Six.double H h _ _ (six_uneven H 2 h r) (four_of H (r / 2 ^ (2 * suc H - 1))) (two_of H (r % 2 ^ (2 * suc H - 1))) b (same_refl (six_uneven H 2 h r))
    (four_every H (4 * H) _ w refl c.high) (two_every H (2 * suc H - 1) _ (omega arith) c.low))
six_uneven_every H (suc (suc (suc n))) h r w k b l = absurd (omega arith)

six_every_by : (H c b : ℕ) → 2 ≤ H → c < 4 → b < 2 ^ (6 * suc H - 4) → Six Choice.free (suc H) (six_by H c b) (c * 2 ^ (6 * suc H - 4) + b)
unfolding six_by
six_every_by H zero b w k h =
    let c = split2 1 (6 * suc H - 5) (6 * suc H - 4) b (omega arith) h in
    let P : ℕ → Type 0 = λ z. Six Choice.free (suc H) (six_by H 0 b) (0 * 2 ^ (6 * suc H - 4) + z) in
    subst P c.is (six_uneven_every H 0 _ _ w (omega arith) c.high c.low)
six_every_by H (suc zero) b w k h =
    let c = split2 1 (6 * suc H - 5) (6 * suc H - 4) b (omega arith) h in
    let P : ℕ → Type 0 = λ z. Six Choice.free (suc H) (six_by H 1 b) (1 * 2 ^ (6 * suc H - 4) + z) in
    subst P c.is (six_uneven_every H 1 _ _ w (omega arith) c.high c.low)
six_every_by H (suc (suc zero)) b w k h =
    let c = split2 1 (6 * suc H - 5) (6 * suc H - 4) b (omega arith) h in
    let P : ℕ → Type 0 = λ z. Six Choice.free (suc H) (six_by H 2 b) (2 * 2 ^ (6 * suc H - 4) + z) in
    subst P c.is (six_uneven_every H 2 _ _ w (omega arith) c.high c.low)
six_every_by H (suc (suc (suc zero))) b w k h =
    let c = split2 (3 * suc H - 2) (3 * suc H - 2) (6 * suc H - 4) b (omega arith) h in
    let P : ℕ → Type 0 = λ z. Six Choice.free (suc H) (six_by H 3 b) (3 * 2 ^ (6 * suc H - 4) + z) in
    subst P c.is
    (Six.triple H _ _ (six_by H 3 b) (three_of H (b / 2 ^ (3 * suc H - 2))) (three_of H (b % 2 ^ (3 * suc H - 2))) (same_refl (six_by H 3 b))
    (three_every H (3 * suc H - 2) _ (omega arith) (omega arith) c.high) (three_every H (3 * suc H - 2) _ (omega arith) (omega arith) c.low))
six_every_by H (suc (suc (suc (suc n)))) b w k h = absurd (omega arith)

pub six_every : (M b i : ℕ) → 3 ≤ M → b ≡ 6 * M - 2 → i < 2 ^ b → Six Choice.free M (six_of M i) i
unfolding six_of
six_every zero b i w e h = absurd (omega arith)
six_every (suc H) b i w e h =
    let c = split2 2 (6 * suc H - 4) b i (omega arith) h in
    let P : ℕ → Type 0 = λ z. Six Choice.free (suc H) (six_of (suc H) i) z in
    subst P c.is (six_every_by H _ _ (omega arith) c.high c.low)
