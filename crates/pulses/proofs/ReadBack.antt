-- A set that has an index by the rules is what is read from that index, and the index is in bounds.
use Rattle.std.proofs.Common.{◌≡◌, ℕ, suc, ◌+◌, ◌-◌, ◌*◌, ◌/◌, ◌%◌, ◌^◌, ◌<◌, ◌≤◌, cond, List, [], ◌∷◌, ◌++◌, sym, refl, ap, ◌∙◌, subst, ap₂, mod-eq_of_lt, arith}
use Rattle.pulses.specs.declared.pulse.Sign.{Sign}
use Rattle.pulses.specs.declared.pulse.Sign.TheVariants.{Plus, Minus}
use Rattle.std.proofs.lemmas.Bool.{le-leb, lt-leb}
use Rattle.pulses.specs.declared.pulse.Pulse.{Pulse}
use Rattle.pulses.specs.Pulses.{pulse, bit, Same, up, opposite}
use Rattle.pulses.specs.Rules.{Choice, One, Two, Three, Close, Four, Five, Six}
use Rattle.pulses.specs.Reading.{sign_of, one_of, pair_of, two_of, three_of, close_of, four_of, five_of, six_of, four_by, six_by, six_uneven}
use Rattle.pulses.proofs.Cuts.{widen, cut_below, cut3, cut3_below, cut_high, cut_low}
use Rattle.pulses.proofs.Tallies.{same_trans, same_append, same_up}

pub record Read (b : ℕ) (ps : List Pulse) (i : ℕ) (qs : List Pulse) : Type 0 where
  pub below : i < 2 ^ b
  pub same : Same ps qs

sign_bit : (s : Sign) → sign_of (bit s) ≡ s
sign_bit Minus = refl
sign_bit Plus = refl

bit_below : (s : Sign) → bit s < 2
bit_below Minus = omega arith
bit_below Plus = omega arith

as_same : (ps qs rs : List Pulse) → Same ps qs → rs ≡ qs → Same ps rs
as_same ps qs rs h e = let P : List Pulse → Type 0 = λ z. Same ps z in subst P (sym e) h

one_of_at : (M p : ℕ) (s : Sign) → p < 2 ^ M → one_of M (p + bit s * 2 ^ M) ≡ pulse p s ∷ []
unfolding one_of
one_of_at M p s h =
    let e : p + bit s * 2 ^ M ≡ bit s * 2 ^ M + p = omega arith in
    let l : (p + bit s * 2 ^ M) % 2 ^ M ≡ p = ap (λ z. z % 2 ^ M) e ∙ cut_low M p (bit s) h in
    let t : (p + bit s * 2 ^ M) / 2 ^ M ≡ bit s = ap (λ z. z / 2 ^ M) e ∙ cut_high M p (bit s) h in
    ap₂ (λ a b. pulse a b ∷ []) l (ap sign_of t ∙ sign_bit s)

pub one_reads : {M : ℕ} {ps : List Pulse} {i : ℕ} → One M ps i → Read (M + 1) ps i (one_of M i)
one_reads (One.one M p s ps h e) =
    record {
      below = let t : bit s * 2 ^ M + p < 2 ^ (M + 1) = cut_below 1 M (M + 1) (bit s) p (omega arith) (bit_below s) h in omega arith;
      same = as_same ps _ _ e (one_of_at M p s h);
    }

two_of_at : (M a b : ℕ) (s : Sign) → a < 2 ^ M → b < 2 ^ M → two_of M (b + a * 2 ^ M + bit s * 2 ^ (2 * M)) ≡ pair_of a b s
unfolding two_of
two_of_at M a b s h k =
    let c = cut3 M M (2 * M) b a (bit s) (omega arith) k h in
    ap₂ (λ z w. pair_of z w (sign_of ((b + a * 2 ^ M + bit s * 2 ^ (2 * M)) / 2 ^ (2 * M)))) c.mid c.low
    ∙ ap (pair_of a b) (ap sign_of c.high ∙ sign_bit s)

pub pair_rising : (a b : ℕ) (s : Sign) → a ≤ b → pair_of a b s ≡ pulse a s ∷ pulse b s ∷ []
unfolding pair_of
pair_rising a b s h = ap (λ t. pulse a s ∷ pulse b (cond t s (opposite s)) ∷ []) (le-leb a b h)

pub pair_falling : (a b : ℕ) (s : Sign) → b < a → pair_of a b s ≡ pulse a s ∷ pulse b (opposite s) ∷ []
unfolding pair_of
pair_falling a b s h = ap (λ t. pulse a s ∷ pulse b (cond t s (opposite s)) ∷ []) (lt-leb a b h)

pub two_reads : {M : ℕ} {ps : List Pulse} {i : ℕ} → Two M ps i → Read (2 * M + 1) ps i (two_of M i)
two_reads (Two.equal M a b s ps h k o e) =
    record {
      below = cut3_below M M 1 (2 * M) (2 * M + 1) b a (bit s) (omega arith) refl k h (bit_below s);
      same = as_same ps _ _ e (two_of_at M a b s h k ∙ pair_rising a b s o);
    }
two_reads (Two.unequal M a b s ps h k o e) =
    record {
      below = cut3_below M M 1 (2 * M) (2 * M + 1) b a (bit s) (omega arith) refl k h (bit_below s);
      same = as_same ps _ _ e (two_of_at M a b s h k ∙ pair_falling a b s o);
    }

-- the index of a group in half h, h, and the index of the rest: what Three and Close share
module _ (H h i j : ℕ) (b : h < 2) (s : i < 2 ^ (2 * H + 1)) where
  three_of_at : three_of (suc H) (i + h * 2 ^ (2 * suc H - 1) + j * 2 ^ (2 * suc H)) ≡ up (h * 2 ^ H) (two_of H i) ++ one_of (suc H) j
  unfolding three_of
  three_of_at =
      let c = cut3 (2 * suc H - 1) 1 (2 * suc H) i h j (omega arith) (widen (2 * H + 1) (2 * suc H - 1) (omega arith) s) b in
      rw (c.low, c.mid, c.high)

  close_of_at : close_of (suc H) (i + h * 2 ^ (2 * suc H - 1) + j * 2 ^ (2 * suc H)) ≡ up (h * 2 ^ H) (two_of H i) ++ two_of (suc H) j
  unfolding close_of
  close_of_at =
      let c = cut3 (2 * suc H - 1) 1 (2 * suc H) i h j (omega arith) (widen (2 * H + 1) (2 * suc H - 1) (omega arith) s) b in
      rw (c.low, c.mid, c.high)

  pair_below : (w n : ℕ) → n ≡ 2 * suc H + w → j < 2 ^ w → i + h * 2 ^ (2 * suc H - 1) + j * 2 ^ (2 * suc H) < 2 ^ n
  pair_below w n e t =
      cut3_below (2 * suc H - 1) 1 w (2 * suc H) n i h j (omega arith) e (widen (2 * H + 1) (2 * suc H - 1) (omega arith) s) b t

-- two groups, moved up, as they are read
joins : (m n : ℕ) (ps js ks ls ms : List Pulse) → Same ps (up m js ++ up n ks) → Same js ls → Same ks ms → Same ps (up m ls ++ up n ms)
joins m n ps js ks ls ms e h k = same_trans ps _ _ e (same_append _ _ _ _ (same_up m js ls h) (same_up n ks ms k))

joins_right : (m : ℕ) (ps js ks ls ms : List Pulse) → Same ps (up m js ++ ks) → Same js ls → Same ks ms → Same ps (up m ls ++ ms)
joins_right m ps js ks ls ms e h k = same_trans ps _ _ e (same_append _ _ ks ms (same_up m js ls h) k)

joins_left : (n : ℕ) (ps js ks ls ms : List Pulse) → Same ps (js ++ up n ks) → Same js ls → Same ks ms → Same ps (ls ++ up n ms)
joins_left n ps js ks ls ms e h k = same_trans ps _ _ e (same_append js ls _ _ h (same_up n ks ms k))

pub three_reads : {v : Choice} {M : ℕ} {ps : List Pulse} {i : ℕ} → Three v M ps i → Read (3 * M + 1) ps i (three_of M i)
three_reads (Three.three H h i j ps pair third b e _ u v) =
    let r = two_reads u in
    let t = one_reads v in
    record {
      below = pair_below H h i j b r.below (suc H + 1) (3 * suc H + 1) (omega arith) t.below;
      same = as_same ps _ _ (joins_right (h * 2 ^ H) ps pair third (two_of H i) (one_of (suc H) j) e r.same t.same)
          (three_of_at H h i j b r.below);
    }

pub close_reads : {v : Choice} {M : ℕ} {ps : List Pulse} {i : ℕ} → Close v M ps i → Read (4 * M + 1) ps i (close_of M i)
close_reads (Close.close H h i j ps pair others b e _ _ u v) =
    let r = two_reads u in
    let t = two_reads v in
    record {
      below = pair_below H h i j b r.below (2 * suc H + 1) (4 * suc H + 1) (omega arith) t.below;
      same = as_same ps _ _ (joins_right (h * 2 ^ H) ps pair others (two_of H i) (two_of (suc H) j) e r.same t.same)
          (close_of_at H h i j b r.below);
    }

-- two fields, as any function of them sees them
cut2_at : {A : Type 0} (F : ℕ → ℕ → A) (k hi lo : ℕ) → lo < 2 ^ k → F ((hi * 2 ^ k + lo) / 2 ^ k) ((hi * 2 ^ k + lo) % 2 ^ k) ≡ F hi lo
cut2_at F k hi lo h = ap₂ F (cut_high k lo hi h) (cut_low k lo hi h)

four_of_at : (H c b : ℕ) → b < 2 ^ (4 * suc H - 2) → four_of (suc H) (c * 2 ^ (4 * suc H - 2) + b) ≡ four_by H c b
unfolding four_of
four_of_at H c b h = cut2_at (four_by H) (4 * suc H - 2) c b h

four_in_bounds : (H c b : ℕ) → c < 4 → b < 2 ^ (4 * suc H - 2) → c * 2 ^ (4 * suc H - 2) + b < 2 ^ (4 * suc H)
four_in_bounds H c b h k = cut_below 2 (4 * suc H - 2) (4 * suc H) c b (omega arith) h k

four_by_0 : (H h i : ℕ) → i < 2 ^ (4 * suc H - 3) → four_by H 0 (h * 2 ^ (4 * suc H - 3) + i) ≡ up (h * 2 ^ H) (close_of H i)
unfolding four_by
four_by_0 H h i l = cut2_at (λ z w. up (z * 2 ^ H) (close_of H w)) (4 * suc H - 3) h i l

four_by_1 : (H i j : ℕ) → j < 2 ^ (3 * suc H - 2) → four_by H 1 (i * 2 ^ (3 * suc H - 2) + j) ≡ one_of H i ++ up (2 ^ H) (three_of H j)
unfolding four_by
four_by_1 H i j l = cut2_at (λ z w. one_of H z ++ up (2 ^ H) (three_of H w)) (3 * suc H - 2) i j l

four_by_2 : (H i j : ℕ) → j < 2 ^ (2 * suc H - 1) → four_by H 2 (i * 2 ^ (2 * suc H - 1) + j) ≡ two_of H i ++ up (2 ^ H) (two_of H j)
unfolding four_by
four_by_2 H i j l = cut2_at (λ z w. two_of H z ++ up (2 ^ H) (two_of H w)) (2 * suc H - 1) i j l

four_by_3 : (H i j : ℕ) → j < 2 ^ suc H → four_by H 3 (i * 2 ^ suc H + j) ≡ three_of H i ++ up (2 ^ H) (one_of H j)
unfolding four_by
four_by_3 H i j l = cut2_at (λ z w. three_of H z ++ up (2 ^ H) (one_of H w)) (suc H) i j l

pub four_reads : {v : Choice} {M : ℕ} {ps : List Pulse} {i : ℕ} → Four v M ps i → Read (4 * M) ps i (four_of M i)
four_reads (Four.all_in H h i ps group b e u) =
    let r = close_reads u in
    let l : i < 2 ^ (4 * suc H - 3) = widen (4 * H + 1) (4 * suc H - 3) (omega arith) r.below in
    let n = cut_below 1 (4 * suc H - 3) (4 * suc H - 2) h i (omega arith) b l in
    record {
      below = four_in_bounds H 0 _ (omega arith) n;
      same = as_same ps _ _ (same_trans ps _ _ e (same_up (h * 2 ^ H) group (close_of H i) r.same))
          (four_of_at H 0 _ n ∙ four_by_0 H h i l);
    }
four_reads (Four.one_three H i j ps low high e u v) =
    let r = one_reads u in
    let t = three_reads v in
    let l : j < 2 ^ (3 * suc H - 2) = widen (3 * H + 1) (3 * suc H - 2) (omega arith) t.below in
    let n = cut_below (H + 1) (3 * suc H - 2) (4 * suc H - 2) i j (omega arith) r.below l in
    record {
      below = four_in_bounds H 1 _ (omega arith) n;
      same = as_same ps _ _ (joins_left (2 ^ H) ps low high (one_of H i) (three_of H j) e r.same t.same)
          (four_of_at H 1 _ n ∙ four_by_1 H i j l);
    }
four_reads (Four.two_two H i j ps low high e u v) =
    let r = two_reads u in
    let t = two_reads v in
    let l : j < 2 ^ (2 * suc H - 1) = widen (2 * H + 1) (2 * suc H - 1) (omega arith) t.below in
    let n = cut_below (2 * H + 1) (2 * suc H - 1) (4 * suc H - 2) i j (omega arith) r.below l in
    record {
      below = four_in_bounds H 2 _ (omega arith) n;
      same = as_same ps _ _ (joins_left (2 ^ H) ps low high (two_of H i) (two_of H j) e r.same t.same)
          (four_of_at H 2 _ n ∙ four_by_2 H i j l);
    }
four_reads (Four.three_one H i j ps low high e u v) =
    let r = three_reads u in
    let t = one_reads v in
    let l : j < 2 ^ suc H = widen (H + 1) (suc H) (omega arith) t.below in
    let n = cut_below (3 * H + 1) (suc H) (4 * suc H - 2) i j (omega arith) r.below l in
    record {
      below = four_in_bounds H 3 _ (omega arith) n;
      same = as_same ps _ _ (joins_left (2 ^ H) ps low high (three_of H i) (one_of H j) e r.same t.same)
          (four_of_at H 3 _ n ∙ four_by_3 H i j l);
    }

five_of_at : (H h i j : ℕ) → h < 2 → i < 2 ^ (3 * suc H - 2) → j < 2 ^ (2 * suc H + 1)
    → five_of (suc H) (j + i * 2 ^ (2 * suc H + 1) + h * 2 ^ (5 * suc H - 1)) ≡ up (h * 2 ^ H) (three_of H i) ++ two_of (suc H) j
unfolding five_of
five_of_at H h i j b p q =
    let c = cut3 (2 * suc H + 1) (3 * suc H - 2) (5 * suc H - 1) j i h (omega arith) q p in
    rw (c.low, c.mid, c.high, mod-eq_of_lt b)

pub five_reads : {v : Choice} {M : ℕ} {ps : List Pulse} {i : ℕ} → Five v M ps i → Read (5 * M) ps i (five_of M i)
five_reads (Five.five H h i j ps triple others b e _ u v) =
    let r = three_reads u in
    let t = two_reads v in
    let l : i < 2 ^ (3 * suc H - 2) = widen (3 * H + 1) (3 * suc H - 2) (omega arith) r.below in
    let o : j + i * 2 ^ (2 * suc H + 1) + h * 2 ^ (5 * suc H - 1) ≡ h * 2 ^ (5 * suc H - 1) + i * 2 ^ (2 * suc H + 1) + j = omega arith in
    let P : ℕ → Type 0 = λ n. Read (5 * suc H) ps n (five_of (suc H) n) in
    subst P o (record {
      below = cut3_below (2 * suc H + 1) (3 * suc H - 2) 1 (5 * suc H - 1) (5 * suc H) j i h (omega arith) (omega arith) t.below l b;
      same = as_same ps _ _ (joins_right (h * 2 ^ H) ps triple others (three_of H i) (two_of (suc H) j) e r.same t.same)
          (five_of_at H h i j b l t.below);
    })

six_of_at : (H c b : ℕ) → b < 2 ^ (6 * suc H - 4) → six_of (suc H) (c * 2 ^ (6 * suc H - 4) + b) ≡ six_by H c b
unfolding six_of
six_of_at H c b h = cut2_at (six_by H) (6 * suc H - 4) c b h

six_in_bounds : (H c b : ℕ) → c < 4 → b < 2 ^ (6 * suc H - 4) → c * 2 ^ (6 * suc H - 4) + b < 2 ^ (6 * suc H - 2)
six_in_bounds H c b h k = cut_below 2 (6 * suc H - 4) (6 * suc H - 2) c b (omega arith) h k

six_by_0 : (H h r : ℕ) → r < 2 ^ (6 * suc H - 5) → six_by H 0 (h * 2 ^ (6 * suc H - 5) + r) ≡ six_uneven H 0 h r
unfolding six_by
six_by_0 H h r l = cut2_at (six_uneven H 0) (6 * suc H - 5) h r l

six_by_1 : (H h r : ℕ) → r < 2 ^ (6 * suc H - 5) → six_by H 1 (h * 2 ^ (6 * suc H - 5) + r) ≡ six_uneven H 1 h r
unfolding six_by
six_by_1 H h r l = cut2_at (six_uneven H 1) (6 * suc H - 5) h r l

six_by_2 : (H h r : ℕ) → r < 2 ^ (6 * suc H - 5) → six_by H 2 (h * 2 ^ (6 * suc H - 5) + r) ≡ six_uneven H 2 h r
unfolding six_by
six_by_2 H h r l = cut2_at (six_uneven H 2) (6 * suc H - 5) h r l

six_by_3 : (H i j : ℕ) → j < 2 ^ (3 * suc H - 2) → six_by H 3 (i * 2 ^ (3 * suc H - 2) + j) ≡ three_of H i ++ up (2 ^ H) (three_of H j)
unfolding six_by
six_by_3 H i j l = cut2_at (λ z w. three_of H z ++ up (2 ^ H) (three_of H w)) (3 * suc H - 2) i j l

six_uneven_0 : (H h i j : ℕ) → j < 2 ^ suc H → six_uneven H 0 h (i * 2 ^ suc H + j) ≡ up (h * 2 ^ H) (five_of H i) ++ up (h * 2 ^ H) (one_of H j)
unfolding six_uneven
six_uneven_0 H h i j l = cut2_at (λ z w. up (h * 2 ^ H) (five_of H z) ++ up (h * 2 ^ H) (one_of H w)) (suc H) i j l

six_uneven_1 : (H h i j : ℕ) → j < 2 ^ suc H
    → six_uneven H 1 h (i * 2 ^ suc H + j) ≡ up (h * 2 ^ H) (five_of H i) ++ up ((1 - h) * 2 ^ H) (one_of H j)
unfolding six_uneven
six_uneven_1 H h i j l = cut2_at (λ z w. up (h * 2 ^ H) (five_of H z) ++ up ((1 - h) * 2 ^ H) (one_of H w)) (suc H) i j l

six_uneven_2 : (H h i j : ℕ) → j < 2 ^ (2 * suc H - 1)
    → six_uneven H 2 h (i * 2 ^ (2 * suc H - 1) + j) ≡ up (h * 2 ^ H) (four_of H i) ++ up ((1 - h) * 2 ^ H) (two_of H j)
unfolding six_uneven
six_uneven_2 H h i j l = cut2_at (λ z w. up (h * 2 ^ H) (four_of H z) ++ up ((1 - h) * 2 ^ H) (two_of H w)) (2 * suc H - 1) i j l

pub six_reads : {v : Choice} {M : ℕ} {ps : List Pulse} {i : ℕ} → Six v M ps i → Read (6 * M - 2) ps i (six_of M i)
six_reads (Six.none H h i j ps quint sixth b e _ u v) =
    let r = five_reads u in
    let t = one_reads v in
    let l : j < 2 ^ suc H = widen (H + 1) (suc H) (omega arith) t.below in
    let m = cut_below (5 * H) (suc H) (6 * suc H - 5) i j (omega arith) r.below l in
    let n = cut_below 1 (6 * suc H - 5) (6 * suc H - 4) h _ (omega arith) b m in
    record {
      below = six_in_bounds H 0 _ (omega arith) n;
      same = as_same ps _ _ (joins (h * 2 ^ H) (h * 2 ^ H) ps quint sixth (five_of H i) (one_of H j) e r.same t.same)
          (six_of_at H 0 _ n ∙ six_by_0 H h _ m ∙ six_uneven_0 H h i j l);
    }
six_reads (Six.single H h i j ps quint sixth b e u v) =
    let r = five_reads u in
    let t = one_reads v in
    let l : j < 2 ^ suc H = widen (H + 1) (suc H) (omega arith) t.below in
    let m = cut_below (5 * H) (suc H) (6 * suc H - 5) i j (omega arith) r.below l in
    let n = cut_below 1 (6 * suc H - 5) (6 * suc H - 4) h _ (omega arith) b m in
    record {
      below = six_in_bounds H 1 _ (omega arith) n;
      same = as_same ps _ _ (joins (h * 2 ^ H) ((1 - h) * 2 ^ H) ps quint sixth (five_of H i) (one_of H j) e r.same t.same)
          (six_of_at H 1 _ n ∙ six_by_1 H h _ m ∙ six_uneven_1 H h i j l);
    }
six_reads (Six.double H h i j ps four pair b e u v) =
    let r = four_reads u in
    let t = two_reads v in
    let l : j < 2 ^ (2 * suc H - 1) = widen (2 * H + 1) (2 * suc H - 1) (omega arith) t.below in
    let m = cut_below (4 * H) (2 * suc H - 1) (6 * suc H - 5) i j (omega arith) r.below l in
    let n = cut_below 1 (6 * suc H - 5) (6 * suc H - 4) h _ (omega arith) b m in
    record {
      below = six_in_bounds H 2 _ (omega arith) n;
      same = as_same ps _ _ (joins (h * 2 ^ H) ((1 - h) * 2 ^ H) ps four pair (four_of H i) (two_of H j) e r.same t.same)
          (six_of_at H 2 _ n ∙ six_by_2 H h _ m ∙ six_uneven_2 H h i j l);
    }
six_reads (Six.triple H i j ps low high e u v) =
    let r = three_reads u in
    let t = three_reads v in
    let l : j < 2 ^ (3 * suc H - 2) = widen (3 * H + 1) (3 * suc H - 2) (omega arith) t.below in
    let n = cut_below (3 * H + 1) (3 * suc H - 2) (6 * suc H - 4) i j (omega arith) r.below l in
    record {
      below = six_in_bounds H 3 _ (omega arith) n;
      same = as_same ps _ _ (joins_left (2 ^ H) ps low high (three_of H i) (three_of H j) e r.same t.same)
          (six_of_at H 3 _ n ∙ six_by_3 H i j l);
    }
