-- The house index by each rule, from the groups that the code cuts a sorted list into.
use Rattle.std.proofs.Common.{◌≡◌, ℕ, zero, suc, ◌+◌, ◌-◌, ◌*◌, ◌/◌, ◌%◌, ◌^◌, ◌<◌, ◌≤◌, Bool, cond, leb, List, [], ◌∷◌, ◌++◌, map, length, take, drop, sym, ap, ◌∙◌, ap₂, arith}
use Rattle.std.specs.Prelude.{◌==◌, nat_eq, filter, count_by}
use Rattle.std.proofs.lemmas.List.{length-map}
use Rattle.std.proofs.lemmas.List.Folds.{fold-map}
use Rattle.std.proofs.lemmas.List.Sums.{length-filter}
use Rattle.std.proofs.lemmas.Bool.{le-leb, lt-leb, cond-true, cond-false}
use Rattle.pulses.specs.declared.pulse.Pulse.{Pulse}
use Rattle.pulses.specs.declared.pulse.Sign.{Sign}
use Rattle.pulses.specs.Pulses.{pulse, bit, alike, half, Sorted}
use Rattle.pulses.specs.Sets.{at}
use Rattle.pulses.specs.Rules.{bits}
use Rattle.pulses.specs.House.{house, one_house, two_places, two_rising, two_house, fuller, three_by, three_house, close_by, close_house, four_halves, four_house, five_by, five_house, six_halves, six_house}
use Rattle.pulses.specs.Within.{down, Halved, Chosen, FullerHalf}
use Rattle.pulses.proofs.Within.{length_down, take_down, drop_down}

-- a width from 1 on, as the rules write it
less : (H : ℕ) → suc H - 1 ≡ H
less H = omega arith

pub three_written : (M h : ℕ) (ps group rest : List Pulse) → 1 ≤ M → Chosen 2 M ps h group rest → length group ≡ 2 → length rest ≡ 1
    → house (length rest) M (down M rest) * 2 ^ (2 * M) + (h * 2 ^ (2 * M - 1) + house (length group) (M - 1) (down (M - 1) group)) ≡ three_house M (down M ps)
unfolding three_house three_by
three_written zero h ps group rest w c k l = absurd (omega arith)
three_written (suc H) h ps group rest w c k l =
    let v = less H in
    rw (k, l) (rw (← c.rest_one l, ← c.group_is, v) (rw (rw v at c.chosen) (omega arith)))

pub close_written : (M h : ℕ) (ps group rest : List Pulse) → 1 ≤ M → Chosen 2 M ps h group rest → length group ≡ 2 → length rest ≡ 2
    → house (length rest) M (down M rest) * 2 ^ (2 * M) + (h * 2 ^ (2 * M - 1) + house (length group) (M - 1) (down (M - 1) group)) ≡ close_house M (down M ps)
unfolding close_house close_by
close_written zero h ps group rest w c k l = absurd (omega arith)
close_written (suc H) h ps group rest w c k l =
    let v = less H in
    rw (k, l) (rw (← c.rest_two l, ← c.group_is, v) (rw (rw v at c.chosen) (omega arith)))

pub five_written : (M h : ℕ) (ps group rest : List Pulse) → 1 ≤ M → Chosen 3 M ps h group rest → length group ≡ 3 → length rest ≡ 2
    → h * 2 ^ (5 * M - 1) + (house (length group) (M - 1) (down (M - 1) group) * 2 ^ (2 * M + 1) + house (length rest) M (down M rest)) ≡ five_house M (down M ps)
unfolding five_house five_by
five_written zero h ps group rest w c k l = absurd (omega arith)
five_written (suc H) h ps group rest w c k l =
    let v = less H in
    rw (k, l) (rw (← c.rest_two l, ← c.group_is, v) (rw (rw v at c.chosen) (omega arith)))

-- four pulses, by how many stand in half 0
four_cut : (H n : ℕ) (ps low high : List Pulse) → Halved (suc H) ps low high → length low ≡ n
    → four_house (suc H) (down (suc H) ps) ≡ four_halves H n (down H low) (down H high)
unfolding four_house
four_cut H n ps low high c e =
    let v = less H in
    let l : half H 0 (down (suc H) ps) ≡ down H low = rw v at c.low_is in
    let h : half H 1 (down (suc H) ps) ≡ down H high = rw v at c.high_is in
    rw (l, h, length_down H low, e)

pub four_written_0 : (M : ℕ) (ps low high : List Pulse) → 1 ≤ M → Halved M ps low high → length low ≡ 0
    → 0 * 2 ^ (4 * M - 2) + (1 * 2 ^ (4 * M - 3) + close_house (M - 1) (down (M - 1) high)) ≡ four_house M (down M ps)
unfolding four_halves
four_written_0 zero ps low high w c e = absurd (omega arith)
four_written_0 (suc H) ps low high w c e = rw (less H, four_cut H 0 ps low high c e)

pub four_written_4 : (M : ℕ) (ps low high : List Pulse) → 1 ≤ M → Halved M ps low high → length low ≡ 4
    → 0 * 2 ^ (4 * M - 2) + (0 * 2 ^ (4 * M - 3) + close_house (M - 1) (down (M - 1) low)) ≡ four_house M (down M ps)
unfolding four_halves
four_written_4 zero ps low high w c e = absurd (omega arith)
four_written_4 (suc H) ps low high w c e = rw (less H, four_cut H 4 ps low high c e)

pub four_written : (M k n : ℕ) (ps low high : List Pulse) → 1 ≤ M → Halved M ps low high → length low ≡ k → n ≡ 4 - k → 1 ≤ k → k ≤ 3
    → k * 2 ^ (4 * M - 2) + (house k (M - 1) (down (M - 1) low) * 2 ^ bits n (M - 1) + house n (M - 1) (down (M - 1) high)) ≡ four_house M (down M ps)
unfolding four_halves
four_written zero k n ps low high w c e f l m = absurd (omega arith)
four_written (suc H) zero n ps low high w c e f l m = absurd (omega arith)
four_written (suc H) (suc zero) n ps low high w c e f l m =
    let g : n ≡ 3 = omega arith in let b : 3 * H + 1 ≡ 3 * suc H - 2 = omega arith in rw (g, less H, b, four_cut H 1 ps low high c e)
four_written (suc H) (suc (suc zero)) n ps low high w c e f l m =
    let g : n ≡ 2 = omega arith in let b : 2 * H + 1 ≡ 2 * suc H - 1 = omega arith in rw (g, less H, b, four_cut H 2 ps low high c e)
four_written (suc H) (suc (suc (suc zero))) n ps low high w c e f l m =
    let g : n ≡ 1 = omega arith in let b : H + 1 ≡ suc H = omega arith in rw (g, less H, b, four_cut H 3 ps low high c e)
four_written (suc H) (suc (suc (suc (suc k)))) n ps low high w c e f l m = absurd (omega arith)

pub four_count : (M k n : ℕ) → 1 ≤ M → n ≡ 4 - k → 1 ≤ k → k ≤ 3 → bits k (M - 1) + bits n (M - 1) ≡ 4 * M - 2
four_count M zero n w f l m = absurd (omega arith)
four_count M (suc zero) n w f l m = let g : n ≡ 3 = omega arith in rw g (omega arith)
four_count M (suc (suc zero)) n w f l m = let g : n ≡ 2 = omega arith in rw g (omega arith)
four_count M (suc (suc (suc zero))) n w f l m = let g : n ≡ 1 = omega arith in rw g (omega arith)
four_count M (suc (suc (suc (suc k)))) n w f l m = absurd (omega arith)

-- the fuller half of six: half 0 where that has three or more
pub fuller_low : (M : ℕ) (ps low high : List Pulse) → Halved M ps low high → 3 ≤ length low → FullerHalf M ps 0 low high
unfolding fuller
fuller_low M ps low high c e =
    record {
      fuller_is = cond-true _ 0 1 (le-leb 3 _ (omega (arith, ap length c.low_is, length_down (M - 1) low)));
      is_half = omega arith;
      full_is = c.low_is;
      rest_is = c.high_is;
    }

pub fuller_high : (M : ℕ) (ps low high : List Pulse) → Halved M ps low high → length low < 3 → FullerHalf M ps 1 high low
unfolding fuller
fuller_high M ps low high c e =
    record {
      fuller_is = cond-false _ 0 1 (lt-leb 3 _ (omega (arith, ap length c.low_is, length_down (M - 1) low)));
      is_half = omega arith;
      full_is = c.high_is;
      rest_is = c.low_is;
    }

-- six pulses, by the fuller half h, its pulses and those of the other
six_cut : (H h n : ℕ) (ps full rest : List Pulse) → FullerHalf (suc H) ps h full rest → length rest ≡ n
    → six_house (suc H) (down (suc H) ps) ≡ six_halves H n h (down H full) (down H rest)
unfolding six_house
six_cut H h n ps full rest c e =
    let v = less H in
    let f : fuller 3 H (down (suc H) ps) ≡ h = rw v at c.fuller_is in
    let l : half H h (down (suc H) ps) ≡ down H full = rw v at c.full_is in
    let r : half H (1 - h) (down (suc H) ps) ≡ down H rest = rw v at c.rest_is in
    rw (f, l, r, length_down H rest, e)

pub six_written_0 : (M h : ℕ) (ps full rest quint sixth : List Pulse) → 1 ≤ M → FullerHalf M ps h full rest → length rest ≡ 0
    → quint ≡ take 5 full → sixth ≡ drop 5 full → length quint ≡ 5 → length sixth ≡ 1
    → 0 * 2 ^ (6 * M - 4) + (h * 2 ^ (6 * M - 5) + (house (length quint) (M - 1) (down (M - 1) quint) * 2 ^ M + house (length sixth) (M - 1) (down (M - 1) sixth))) ≡ six_house M (down M ps)
unfolding six_halves
six_written_0 zero h ps full rest quint sixth w c e q s m n = absurd (omega arith)
six_written_0 (suc H) h ps full rest quint sixth w c e q s m n =
    rw (m, n, q, s, less H, ← take_down H 5 full, ← drop_down H 5 full, six_cut H h 0 ps full rest c e)

pub six_written : (M h k n : ℕ) (ps full rest : List Pulse) → 1 ≤ M → FullerHalf M ps h full rest → length rest ≡ n → k ≡ 6 - n → 1 ≤ n → n ≤ 2
    → n * 2 ^ (6 * M - 4) + (h * 2 ^ (6 * M - 5) + (house k (M - 1) (down (M - 1) full) * 2 ^ bits n (M - 1) + house n (M - 1) (down (M - 1) rest))) ≡ six_house M (down M ps)
unfolding six_halves
six_written zero h k n ps full rest w c e f l m = absurd (omega arith)
six_written (suc H) h k zero ps full rest w c e f l m = absurd (omega arith)
six_written (suc H) h k (suc zero) ps full rest w c e f l m =
    let g : k ≡ 5 = omega arith in let b : H + 1 ≡ suc H = omega arith in rw (g, less H, b, six_cut H h 1 ps full rest c e)
six_written (suc H) h k (suc (suc zero)) ps full rest w c e f l m =
    let g : k ≡ 4 = omega arith in let b : 2 * H + 1 ≡ 2 * suc H - 1 = omega arith in rw (g, less H, b, six_cut H h 2 ps full rest c e)
six_written (suc H) h k (suc (suc (suc n))) ps full rest w c e f l m = absurd (omega arith)

pub six_count : (M n k : ℕ) → 1 ≤ M → k ≡ 6 - n → 1 ≤ n → n ≤ 2 → bits k (M - 1) + bits n (M - 1) ≡ 6 * M - 5
six_count M zero k w f l m = absurd (omega arith)
six_count M (suc zero) k w f l m = let g : k ≡ 5 = omega arith in rw g (omega arith)
six_count M (suc (suc zero)) k w f l m = let g : k ≡ 4 = omega arith in rw g (omega arith)
six_count M (suc (suc (suc n))) k w f l m = absurd (omega arith)

pub six_written_3 : (M h : ℕ) (ps full rest : List Pulse) → 1 ≤ M → FullerHalf M ps h full rest → length full ≡ 3 → length rest ≡ 3
    → 3 * 2 ^ (6 * M - 4) + (house (length full) (M - 1) (down (M - 1) full) * 2 ^ (3 * M - 2) + house (length rest) (M - 1) (down (M - 1) rest)) ≡ six_house M (down M ps)
unfolding six_halves
six_written_3 zero h ps full rest w c k n = absurd (omega arith)
six_written_3 (suc H) h ps full rest w c k n = rw (k, n, less H, six_cut H h 3 ps full rest c n)

-- the one or two pulses of two lists, by the first and the last
pub ends_are : (js ks : List Pulse) (p q : Pulse) → 1 ≤ length js + length ks → length js + length ks ≤ 2
    → p ≡ cond (length js == 0) (at ks 0) (at js 0)
    → q ≡ cond (length ks == 0) (at js (length js - 1)) (at ks (length ks - 1))
    → take (length js + length ks) (p ∷ q ∷ []) ≡ js ++ ks
ends_are [] [] p q l m a b = absurd (omega arith)
ends_are [] (r ∷ []) p q l m a b = ap (λ z. z ∷ []) a
ends_are [] (r ∷ s ∷ []) p q l m a b = ap₂ (λ y z. y ∷ z ∷ []) a b
ends_are [] (r ∷ s ∷ t ∷ ks) p q l m a b = absurd (omega arith)
ends_are (r ∷ []) [] p q l m a b = ap (λ z. z ∷ []) a
ends_are (r ∷ []) (s ∷ []) p q l m a b = ap₂ (λ y z. y ∷ z ∷ []) a b
ends_are (r ∷ []) (s ∷ t ∷ ks) p q l m a b = absurd (omega arith)
ends_are (r ∷ s ∷ []) [] p q l m a b = ap₂ (λ y z. y ∷ z ∷ []) a b
ends_are (r ∷ s ∷ []) (t ∷ ks) p q l m a b = absurd (omega arith)
ends_are (r ∷ s ∷ t ∷ js) ks p q l m a b = absurd (omega arith)

pub one_written : (M : ℕ) (ps : List Pulse) → length ps ≡ 1 → bit (at ps 0).sign * 2 ^ M + (at ps 0).place % 2 ^ M ≡ one_house M (down M ps)
unfolding one_house down
one_written M [] e = absurd (omega arith)
one_written M (p ∷ ps) e = omega arith

two_rises : (M : ℕ) (p q : Pulse) → p.place % 2 ^ M ≤ q.place % 2 ^ M
    → two_house M (down M (p ∷ q ∷ [])) ≡ cond (alike p.sign q.sign) (two_places M (p.place % 2 ^ M) (q.place % 2 ^ M) p.sign) (two_places M (q.place % 2 ^ M) (p.place % 2 ^ M) q.sign)
unfolding two_house two_rising down
two_rises M p q l = cond-true (leb (p.place % 2 ^ M) (q.place % 2 ^ M)) _ _ (le-leb (p.place % 2 ^ M) (q.place % 2 ^ M) l)

pub two_written : (M : ℕ) (ps : List Pulse) → length ps ≡ 2 → Sorted (down M ps)
    → two_house M (down M ps)
    ≡ cond (alike (at ps 0).sign (at ps 1).sign) (two_places M ((at ps 0).place % 2 ^ M) ((at ps 1).place % 2 ^ M) (at ps 0).sign) (two_places M ((at ps 1).place % 2 ^ M) ((at ps 0).place % 2 ^ M) (at ps 1).sign)
unfolding down
two_written M [] e a = absurd (omega arith)
two_written M (p ∷ []) e a = absurd (omega arith)
two_written M (p ∷ q ∷ []) e a = two_rises M p q a.0.0
two_written M (p ∷ q ∷ r ∷ ps) e a = absurd (omega arith)

pub pair_written : (M a b : ℕ) (s : Sign) → bit s * 2 ^ (2 * M) + (a * 2 ^ M + b) ≡ two_places M a b s
unfolding two_places
pair_written M a b s = omega arith

-- the pulses of half 0, counted
pub lows : (M : ℕ) (ps : List Pulse) → count_by (λ p. nat_eq (p.place % 2 ^ M / 2 ^ (M - 1)) 0) ps ≡ length (half (M - 1) 0 (down M ps))
unfolding half down
lows M ps =
    let f : Pulse → Pulse = λ p. pulse (p.place % 2 ^ M) p.sign in
    let q : Pulse → Bool = λ p. nat_eq (p.place / 2 ^ (M - 1)) 0 in
    sym (length-map (filter q (map f ps)) (λ p. pulse (p.place % 2 ^ (M - 1)) p.sign) ∙ length-filter q (map f ps) ∙ fold-map (λ n p. n + cond (q p) 1 0) f 0 ps)
