-- What each rule reads, group after group, on a track that begins at `from`: what the code's calls give, joined.
use Rattle.std.proofs.Common.{◌≡◌, ℕ, zero, suc, ◌+◌, ◌-◌, ◌*◌, ◌/◌, ◌%◌, ◌^◌, ◌<◌, ◌≤◌, List, [], ◌∷◌, ◌++◌, length, take, drop, set, refl, ap, ◌∙◌, ap₂, add_assoc, arith}
use borrow.Rule.Slice.PartMut.{put_mid}
use lib.Pow.{mod-mod-pow}
use Rattle.std.proofs.lemmas.List.{length-take, length-drop, length-append, take_at, drop_at, drop_all, append-nil}
use Rattle.std.proofs.Math.Pow.{shr_mod}
use Rattle.pulses.specs.declared.pulse.Pulse.{Pulse}
use Rattle.pulses.specs.Pulses.{pulse, up}
use Rattle.pulses.specs.Rules.{bits}
use Rattle.pulses.specs.Reading.{two_of, three_of, close_of, four_by, four_of, five_of, six_uneven, six_by, six_of, pulses_of}
use Rattle.pulses.proofs.Cuts.{widen, mid_is}
use Rattle.pulses.proofs.Halves.{up_append}

pub up_up : (m n : ℕ) (ps : List Pulse) → up n (up m ps) ≡ up (m + n) ps
unfolding up
up_up m n [] = refl
up_up m n (p ∷ ps) = ap₂ (λ x qs. pulse x p.sign ∷ qs) (add_assoc p.place m n) (up_up m n ps)

-- a slice after a write to its first k and one to those left
pub groups : (k m : ℕ) (xs js ks : List Pulse) (f g w v x y : ℕ) → k ≤ length xs → m ≡ length (js ++ drop k xs) - k
    → js ≡ up f (pulses_of (length (take k xs)) w x)
    → length js ≡ length (take k xs)
    → ks ≡ up g (pulses_of (length (take m (drop k (js ++ drop k xs)))) v y)
    → put_mid k m (js ++ drop k xs) ks ≡ up f (pulses_of k w x) ++ up g (pulses_of (length xs - k) v y)
groups k m xs js ks f g w v x y h q ea la eb =
    let a : length (take k xs) ≡ k = omega (arith, length-take k xs) in
    let n : length js ≡ k = la ∙ a in
    let d : length (drop k (js ++ drop k xs)) ≡ length xs - k = ap length (drop_at js (drop k xs) k n) ∙ length-drop k xs in
    let s : length (js ++ drop k xs) ≡ length js + length (drop k xs) = length-append js (drop k xs) in
    let b : length (take m (drop k (js ++ drop k xs))) ≡ length xs - k = omega (arith, length-take m (drop k (js ++ drop k xs)), d, s, q, n, length-drop k xs) in
    let past : drop m (drop k (js ++ drop k xs)) ≡ [] = drop_all m (drop k (js ++ drop k xs)) (omega (arith, d, s, q, n, length-drop k xs)) in
    ap₂ (λ y z. y ++ (ks ++ z)) (take_at js (drop k xs) k n) past
    ∙ ap₂ (λ y z. y ++ z) (ea ∙ ap (λ z. up f (pulses_of z w x)) a) (append-nil ks ∙ eb ∙ ap (λ z. up g (pulses_of z v y)) b)

-- the half and the pair below the others, of an index cut from the top
module _ (M i : ℕ) where
  half_bit : 1 ≤ M → i % 2 ^ (2 * M) / 2 ^ (2 * M - 1) ≡ i / 2 ^ (2 * M - 1) % 2
  half_bit h =
      let k : 2 * M ≡ 1 + (2 * M - 1) = omega arith in
      ap (λ z. i % 2 ^ z / 2 ^ (2 * M - 1)) k ∙ mid_is i 1 (2 * M - 1)

  pair_bits : 1 ≤ M → i % 2 ^ (2 * M) % 2 ^ (2 * M - 1) ≡ i % 2 ^ (2 * M - 1)
  pair_bits h =
      let k : 2 * M ≡ 1 + (2 * M - 1) = omega arith in
      ap (λ z. i % 2 ^ z % 2 ^ (2 * M - 1)) k ∙ mod-mod-pow i 1 (2 * M - 1)

pub three_step : (M from i n : ℕ) → 1 ≤ M → n ≡ 1
    → up (i % 2 ^ (2 * M) / 2 ^ (2 * M - 1) * 2 ^ (M - 1) + from) (two_of (M - 1) (i % 2 ^ (2 * M) % 2 ^ (2 * M - 1))) ++ up from (pulses_of n M (i / 2 ^ (2 * M)))
    ≡ up from (three_of M i)
unfolding three_of
three_step zero from i n h q = absurd (omega arith)
three_step (suc H) from i n h q =
    let e : suc H - 1 ≡ H = omega arith in
    rw (q, half_bit (suc H) i h, pair_bits (suc H) i h, e, up_append, up_up)

pub close_step : (M from i n : ℕ) → 1 ≤ M → n ≡ 2
    → up (i % 2 ^ (2 * M) / 2 ^ (2 * M - 1) * 2 ^ (M - 1) + from) (two_of (M - 1) (i % 2 ^ (2 * M) % 2 ^ (2 * M - 1))) ++ up from (pulses_of n M (i / 2 ^ (2 * M)))
    ≡ up from (close_of M i)
unfolding close_of
close_step zero from i n h q = absurd (omega arith)
close_step (suc H) from i n h q =
    let e : suc H - 1 ≡ H = omega arith in
    rw (q, half_bit (suc H) i h, pair_bits (suc H) i h, e, up_append, up_up)

pub five_step : (M from i n : ℕ) → 1 ≤ M → n ≡ 2 → i < 2 ^ (5 * M)
    → up (i / 2 ^ (5 * M - 1) * 2 ^ (M - 1) + from) (three_of (M - 1) (i % 2 ^ (5 * M - 1) / 2 ^ bits n M)) ++ up from (pulses_of n M (i % 2 ^ (5 * M - 1) % 2 ^ bits n M))
    ≡ up from (five_of M i)
unfolding five_of
five_step zero from i n h q l = absurd (omega arith)
five_step (suc H) from i n h q l =
    let e : suc H - 1 ≡ H = omega arith in
    let k : 5 * suc H - 1 ≡ (3 * suc H - 2) + (2 * suc H + 1) = omega arith in
    let t : i / 2 ^ (5 * suc H - 1) % 2 ≡ i / 2 ^ (5 * suc H - 1) = shr_mod 1 (5 * suc H - 1) (widen (5 * suc H) (1 + (5 * suc H - 1)) (omega arith) l) in
    let u : i % 2 ^ (5 * suc H - 1) / 2 ^ (2 * suc H + 1) ≡ i / 2 ^ (2 * suc H + 1) % 2 ^ (3 * suc H - 2) =
    ap (λ z. i % 2 ^ z / 2 ^ (2 * suc H + 1)) k ∙ mid_is i (3 * suc H - 2) (2 * suc H + 1) in
    let v : i % 2 ^ (5 * suc H - 1) % 2 ^ (2 * suc H + 1) ≡ i % 2 ^ (2 * suc H + 1) =
    ap (λ z. i % 2 ^ z % 2 ^ (2 * suc H + 1)) k ∙ mod-mod-pow i (3 * suc H - 2) (2 * suc H + 1) in
    rw (q, u, v, e, t, up_append, up_up)

-- the rules that begin with a number c, of which b is the body
pub four_step_0 : (M from i c b : ℕ) → 1 ≤ M → c ≡ i / 2 ^ (4 * M - 2) → b ≡ i % 2 ^ (4 * M - 2) → c ≡ 0
    → up (b / 2 ^ (4 * M - 3) * 2 ^ (M - 1) + from) (close_of (M - 1) (b % 2 ^ (4 * M - 3))) ≡ up from (four_of M i)
unfolding four_of four_by
four_step_0 zero from i c b h p q r = absurd (omega arith)
four_step_0 (suc H) from i c b h p q r = let e : suc H - 1 ≡ H = omega arith in rw (e, ← p, ← q, r, up_up)

-- k pulses in half 0, and n in half 1
pub four_step : (M from i k b n : ℕ) → 1 ≤ M → k ≡ i / 2 ^ (4 * M - 2) → b ≡ i % 2 ^ (4 * M - 2) → 1 ≤ k → k < 4 → n ≡ 4 - k
    → up (0 * 2 ^ (M - 1) + from) (pulses_of k (M - 1) (b / 2 ^ bits n (M - 1))) ++ up (1 * 2 ^ (M - 1) + from) (pulses_of n (M - 1) (b % 2 ^ bits n (M - 1)))
    ≡ up from (four_of M i)
unfolding four_of four_by
four_step zero from i k b n w p q l m e = absurd (omega arith)
four_step (suc H) from i zero b n w p q l m e = absurd (omega arith)
four_step (suc H) from i (suc zero) b n w p q l m e =
    let f : n ≡ 3 = omega arith in
    let v : suc H - 1 ≡ H = omega arith in
    let g : 3 * H + 1 ≡ 3 * suc H - 2 = omega arith in
    let y : 0 * 2 ^ H + from ≡ from = omega arith in
    let z : 1 * 2 ^ H ≡ 2 ^ H = omega arith in
    rw (f, v, g, y, z, ← p, ← q, up_append, up_up)
four_step (suc H) from i (suc (suc zero)) b n w p q l m e =
    let f : n ≡ 2 = omega arith in
    let v : suc H - 1 ≡ H = omega arith in
    let g : 2 * H + 1 ≡ 2 * suc H - 1 = omega arith in
    let y : 0 * 2 ^ H + from ≡ from = omega arith in
    let z : 1 * 2 ^ H ≡ 2 ^ H = omega arith in
    rw (f, v, g, y, z, ← p, ← q, up_append, up_up)
four_step (suc H) from i (suc (suc (suc zero))) b n w p q l m e =
    let f : n ≡ 1 = omega arith in
    let v : suc H - 1 ≡ H = omega arith in
    let g : H + 1 ≡ suc H = omega arith in
    let y : 0 * 2 ^ H + from ≡ from = omega arith in
    let z : 1 * 2 ^ H ≡ 2 ^ H = omega arith in
    rw (f, v, g, y, z, ← p, ← q, up_append, up_up)
four_step (suc H) from i (suc (suc (suc (suc k)))) b n w p q l m e = absurd (omega arith)

-- j is the fuller half, r the rest
module _ (M from i c b j r : ℕ) where
  pub record SixCut : Type 0 where
    pub wide : 1 ≤ M
    pub number : c ≡ i / 2 ^ (6 * M - 4)
    pub body : b ≡ i % 2 ^ (6 * M - 4)
    pub fuller : j ≡ b / 2 ^ (6 * M - 5)
    pub rest : r ≡ b % 2 ^ (6 * M - 5)

six_three : (H c b : ℕ) → 3 ≤ c → six_by H c b ≡ three_of H (b / 2 ^ (3 * suc H - 2)) ++ up (2 ^ H) (three_of H (b % 2 ^ (3 * suc H - 2)))
unfolding six_by
six_three H zero b h = absurd (omega arith)
six_three H (suc zero) b h = absurd (omega arith)
six_three H (suc (suc zero)) b h = absurd (omega arith)
six_three H (suc (suc (suc n))) b h = refl

pub six_step_0 : (M from i c b j r n : ℕ) → SixCut M from i c b j r → c ≡ 0 → n ≡ 1
    → up (j * 2 ^ (M - 1) + from) (five_of (M - 1) (r / 2 ^ bits n (M - 1))) ++ up (j * 2 ^ (M - 1) + from) (pulses_of n (M - 1) (r % 2 ^ bits n (M - 1))) ≡ up from (six_of M i)
unfolding six_of six_by six_uneven
six_step_0 zero from i c b j r n s m q = absurd (omega (arith, s.wide))
six_step_0 (suc H) from i c b j r n s m q =
    let e : suc H - 1 ≡ H = omega arith in
    let f : H + 1 ≡ suc H = omega arith in
    rw (q, e, f, ← s.number, ← s.body, m, ← s.fuller, ← s.rest, up_append) (simp up_up)

pub six_step_1 : (M from i c b j r n : ℕ) → SixCut M from i c b j r → c ≡ 1 → n ≡ 1
    → up (j * 2 ^ (M - 1) + from) (five_of (M - 1) (r / 2 ^ bits n (M - 1))) ++ up ((1 - j) * 2 ^ (M - 1) + from) (pulses_of n (M - 1) (r % 2 ^ bits n (M - 1))) ≡ up from (six_of M i)
unfolding six_of six_by six_uneven
six_step_1 zero from i c b j r n s m q = absurd (omega (arith, s.wide))
six_step_1 (suc H) from i c b j r n s m q =
    let e : suc H - 1 ≡ H = omega arith in
    let f : H + 1 ≡ suc H = omega arith in
    rw (q, e, f, ← s.number, ← s.body, m, ← s.fuller, ← s.rest, up_append) (simp up_up)

pub six_step_2 : (M from i c b j r n : ℕ) → SixCut M from i c b j r → c ≡ 2 → n ≡ 2
    → up (j * 2 ^ (M - 1) + from) (four_of (M - 1) (r / 2 ^ bits n (M - 1))) ++ up ((1 - j) * 2 ^ (M - 1) + from) (pulses_of n (M - 1) (r % 2 ^ bits n (M - 1))) ≡ up from (six_of M i)
unfolding six_of six_by six_uneven
six_step_2 zero from i c b j r n s m q = absurd (omega (arith, s.wide))
six_step_2 (suc H) from i c b j r n s m q =
    let e : suc H - 1 ≡ H = omega arith in
    let f : 2 * H + 1 ≡ 2 * suc H - 1 = omega arith in
    rw (q, e, f, ← s.number, ← s.body, m, ← s.fuller, ← s.rest, up_append) (simp up_up)

pub six_step_3 : (M from i c b n : ℕ) → 1 ≤ M → c ≡ i / 2 ^ (6 * M - 4) → b ≡ i % 2 ^ (6 * M - 4) → 3 ≤ c → n ≡ 3
    → up (0 * 2 ^ (M - 1) + from) (three_of (M - 1) (b / 2 ^ bits n (M - 1))) ++ up (1 * 2 ^ (M - 1) + from) (pulses_of n (M - 1) (b % 2 ^ bits n (M - 1))) ≡ up from (six_of M i)
unfolding six_of
six_step_3 zero from i c b n h p q r m = absurd (omega arith)
six_step_3 (suc H) from i c b n h p q r m =
    let e : suc H - 1 ≡ H = omega arith in
    let z : 1 * 2 ^ H ≡ 2 ^ H = omega arith in
    let y : 0 * 2 ^ H + from ≡ from = omega arith in
    let f : 3 * H + 1 ≡ 3 * suc H - 2 = omega arith in
    rw (m, e, f, y, z, ← p, ← q, six_three H c b r, up_append, up_up)

-- a list of one or two that is written out
pub set_one : (xs : List Pulse) (p : Pulse) → length xs ≡ 1 → set xs 0 p ≡ p ∷ []
set_one [] p l = absurd (omega arith)
set_one (x ∷ []) p l = refl
set_one (x ∷ y ∷ xs) p l = absurd (omega arith)

pub set_two : (xs : List Pulse) (p q : Pulse) → length xs ≡ 2 → set (set xs 0 p) 1 q ≡ p ∷ q ∷ []
set_two [] p q l = absurd (omega arith)
set_two (x ∷ []) p q l = absurd (omega arith)
set_two (x ∷ y ∷ []) p q l = refl
set_two (x ∷ y ∷ z ∷ xs) p q l = absurd (omega arith)
