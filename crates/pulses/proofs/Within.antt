-- How a sorted list of pulses falls into the halves of its track, and what the house's choices take of it.
use Rattle.std.proofs.Common.{◌≡◌, ℕ, zero, suc, ◌+◌, ◌-◌, ◌*◌, ◌/◌, ◌%◌, ◌^◌, ◌<◌, ◌≤◌, cond, leb, ◌⊎◌, List, [], ◌∷◌, ◌++◌, length, take, drop, sym, refl, ap, ◌∙◌, subst, ap₂, ⊎_elim, arith}
use native.Mathlib.Nat.{div-eq_of_lt}
use lib.Pow.{mod-mod-pow}
use Rattle.std.specs.List.{AllByRecursion}
use Rattle.std.proofs.lemmas.Nat.{pow_pos, div_below, mod_below, div-add-mod'}
use Rattle.std.proofs.lemmas.List.{length-map, map-append, take-map, drop-map, take-take, take-append-drop, drop-append-le, drop-drop, length-take, length-drop, length-append, append-nil}
use Rattle.std.proofs.ByRecursion.{All-drop}
use Rattle.std.proofs.lemmas.Bool.{cases_eq, cases_lt, le-leb, lt-leb, cond-true, cond-false}
use Rattle.pulses.specs.declared.pulse.Pulse.{Pulse}
use Rattle.pulses.specs.Pulses.{pulse, On, Sorted, up, half}
use Rattle.pulses.specs.House.{one_house, two_house, fuller, others}
use Rattle.pulses.specs.Within.{down, Halved, Chosen}
use Rattle.pulses.proofs.Halves.{half_none, half_in, half_out, sorted_half, sorted_take, lowest_first}
use Rattle.pulses.proofs.Unique.{sorted_join}

-- places counted from the first of a part
pub length_down : (M : ℕ) (ps : List Pulse) → length (down M ps) ≡ length ps
unfolding down
length_down M ps = length-map ps (λ p. pulse (p.place % 2 ^ M) p.sign)

pub down_append : (M : ℕ) (ps qs : List Pulse) → down M (ps ++ qs) ≡ down M ps ++ down M qs
unfolding down
down_append M ps qs = map-append (λ p. pulse (p.place % 2 ^ M) p.sign) ps qs

pub take_down : (M n : ℕ) (ps : List Pulse) → take n (down M ps) ≡ down M (take n ps)
unfolding down
take_down M n ps = take-map (λ p. pulse (p.place % 2 ^ M) p.sign) n ps

pub drop_down : (M n : ℕ) (ps : List Pulse) → drop n (down M ps) ≡ down M (drop n ps)
unfolding down
drop_down M n ps = drop-map (λ p. pulse (p.place % 2 ^ M) p.sign) n ps

down_down : (H : ℕ) (ps : List Pulse) → down H (down (suc H) ps) ≡ down H ps
unfolding down
down_down H [] = refl
down_down H (p ∷ ps) =
    let e : suc H ≡ 1 + H = omega arith in
    ap₂ (λ x qs. pulse x p.sign ∷ qs) (ap (λ z. p.place % 2 ^ z % 2 ^ H) e ∙ mod-mod-pow p.place 1 H) (down_down H ps)

on_down : (M : ℕ) (ps : List Pulse) → On M (down M ps)
unfolding down
on_down M [] = tt
on_down M (p ∷ ps) = (mod_below p.place (2 ^ M) (pow_pos M), on_down M ps)

-- lists that lie in one half
abbrev InHalf : ℕ → ℕ → List Pulse → Type 0
InHalf H h ps = AllByRecursion (λ p. p.place / 2 ^ H ≡ h) ps

half_all : (H h : ℕ) (ps : List Pulse) → InHalf H h ps → half H h ps ≡ down H ps
unfolding down
half_all H h [] a = half_none H h
half_all H h (p ∷ ps) a = half_in H h p ps a.0 ∙ ap (λ qs. pulse (p.place % 2 ^ H) p.sign ∷ qs) (half_all H h ps a.1)

half_other : (H h g : ℕ) (ps : List Pulse) → (g ≡ h → ⊥) → InHalf H g ps → half H h ps ≡ []
half_other H h g [] n a = half_none H h
half_other H h g (p ∷ ps) n a = half_out H h p ps (λ e. n (sym a.0 ∙ e)) ∙ half_other H h g ps n a.1

up_down : (H h : ℕ) (ps : List Pulse) → InHalf H h ps → up (h * 2 ^ H) (down H ps) ≡ ps
unfolding up down
up_down H h [] a = refl
up_down H h (p ∷ ps) a =
    ap₂ (λ x qs. pulse x p.sign ∷ qs) (omega (arith, div-add-mod' p.place (2 ^ H), ap (λ z. z * 2 ^ H) a.0)) (up_down H h ps a.1)

up_drop : (m k : ℕ) (ps : List Pulse) → up m (drop k ps) ≡ drop k (up m ps)
unfolding up
up_drop m k ps = sym (drop-map (λ p. pulse (p.place + m) p.sign) k ps)

-- a place that is not in the lower half is in the upper one, and so is all that stands above it
upper : (H x : ℕ) → x < 2 ^ suc H → 2 ^ H ≤ x → x / 2 ^ H ≡ 1
upper H x l h =
    let b : x / 2 ^ H < 2 = div_below x (2 ^ H) 2 (pow_pos H) (omega arith) in
    let n : x / 2 ^ H ≡ 0 → ⊥ = λ e. omega (arith, div-add-mod' x (2 ^ H), ap (λ z. z * 2 ^ H) e, mod_below x (2 ^ H) (pow_pos H)) in
    omega arith

all_upper : (H m : ℕ) (ps : List Pulse) → 2 ^ H ≤ m → On (suc H) ps → AllByRecursion (λ q. m ≤ q.place) ps → InHalf H 1 ps
all_upper H m [] h o a = tt
all_upper H m (p ∷ ps) h o a = (upper H p.place o.0 (omega (arith, a.0)), all_upper H m ps h o.1 a.1)

-- a sorted list: the lower half, then the upper one
record Cutting (H : ℕ) (ps : List Pulse) (n : ℕ) : Type 0 where
  size : length (half H 0 ps) ≡ n
  low : half H 0 ps ≡ down H (take n ps)
  high : half H 1 ps ≡ down H (drop n ps)
  lows : InHalf H 0 (take n ps)
  highs : InHalf H 1 (drop n ps)

cutting : (H : ℕ) (ps : List Pulse) → Sorted ps → On (suc H) ps → (n : ℕ) × Cutting H ps n
unfolding down
cutting H [] a o = (0, record { size = ap length (half_none H 0); low = half_none H 0; high = half_none H 1; lows = tt; highs = tt })
cutting H (p ∷ ps) a o =
    ⊎_elim
    (λ e.
    let r = cutting H ps a.1 o.1 in
    let i = half_in H 0 p ps e in (
      suc r.0,
      record {
        size = ap length i ∙ ap suc r.1.size;
        low = i ∙ ap (λ qs. pulse (p.place % 2 ^ H) p.sign ∷ qs) r.1.low;
        high = half_out H 1 p ps (λ f. omega arith) ∙ r.1.high;
        lows = (e, r.1.lows);
        highs = r.1.highs;
      },
    ))
    (λ e.
    let h : 2 ^ H ≤ p.place = ⊎_elim (λ l. absurd (e (div-eq_of_lt l))) (λ l. l) (cases_lt p.place (2 ^ H)) in
    let u : InHalf H 1 (p ∷ ps) = (upper H p.place o.0 h, all_upper H p.place ps h o.1 a.0) in
    let z = half_other H 0 1 (p ∷ ps) (λ f. omega arith) u in
    (0, record { size = ap length z; low = z; high = half_all H 1 (p ∷ ps) u; lows = tt; highs = u }))
    (cases_eq (p.place / 2 ^ H) 0)

cutting_at : (H n : ℕ) (ps : List Pulse) → Sorted ps → On (suc H) ps → n ≡ length (half H 0 ps) → Cutting H ps n
cutting_at H n ps a o e =
    let r = cutting H ps a o in let P : ℕ → Type 0 = λ z. Cutting H ps z in subst P (sym r.1.size ∙ sym e) r.1

module _ (H n : ℕ) (ps : List Pulse) (a : Sorted (down (suc H) ps)) (e : n ≡ length (half H 0 (down (suc H) ps))) where
  cut_down : Cutting H (down (suc H) ps) n
  cut_down = cutting_at H n (down (suc H) ps) a (on_down (suc H) ps) e

  low_down : half H 0 (down (suc H) ps) ≡ down H (take n ps)
  low_down = cut_down.low ∙ ap (down H) (take_down (suc H) n ps) ∙ down_down H (take n ps)

  high_down : half H 1 (down (suc H) ps) ≡ down H (drop n ps)
  high_down = cut_down.high ∙ ap (down H) (drop_down (suc H) n ps) ∙ down_down H (drop n ps)

  halved : Halved (suc H) ps (take n ps) (drop n ps)
  halved =
      let w : H ≡ suc H - 1 = omega arith in
      record {
        low_is = let P : ℕ → Type 0 = λ z. half z 0 (down (suc H) ps) ≡ down z (take n ps) in subst P w low_down;
        high_is = let P : ℕ → Type 0 = λ z. half z 1 (down (suc H) ps) ≡ down z (drop n ps) in subst P w high_down;
        low_sorted = let P : ℕ → Type 0 = λ z. Sorted (down z (take n ps)) in subst P w (subst Sorted low_down (sorted_half H 0 _ a));
        high_sorted = let P : ℕ → Type 0 = λ z. Sorted (down z (drop n ps)) in subst P w (subst Sorted high_down (sorted_half H 1 _ a));
      }

pub halved_is : (M n : ℕ) (ps : List Pulse) → 1 ≤ M → Sorted (down M ps) → n ≡ length (half (M - 1) 0 (down M ps)) → Halved M ps (take n ps) (drop n ps)
halved_is zero n ps h a e = absurd (omega arith)
halved_is (suc H) n ps h a e =
    let w : suc H - 1 ≡ H = omega arith in halved H n ps a (e ∙ ap (λ z. length (half z 0 (down (suc H) ps))) w)

pub sorted_drop : (k : ℕ) (ps : List Pulse) → Sorted ps → Sorted (drop k ps)
sorted_drop zero ps a = a
sorted_drop (suc k) [] a = tt
sorted_drop (suc k) (p ∷ ps) a = sorted_drop k ps a.1

-- a sorted list without a part of it
all_all_drop : (k : ℕ) (ps qs : List Pulse) → AllByRecursion (λ p. AllByRecursion (λ q. p.place ≤ q.place) qs) ps → AllByRecursion (λ p. AllByRecursion (λ q. p.place ≤ q.place) (drop k qs)) ps
all_all_drop k [] qs a = tt
all_all_drop k (p ∷ ps) qs a = (All-drop _ k qs a.0, all_all_drop k ps qs a.1)

sorted_without : (s k : ℕ) (ps : List Pulse) → Sorted ps → Sorted (take s ps ++ drop (s + k) ps)
sorted_without s k ps a =
    let P : List Pulse → Type 0 = λ z. Sorted (take s ps ++ z) in
    subst P (drop-drop k s ps)
    (sorted_join (take s ps) (drop k (drop s ps)) (sorted_take s ps a) (sorted_drop k (drop s ps) (sorted_drop s ps a))
    (all_all_drop k (take s ps) (drop s ps) (lowest_first s ps a)))

-- what stands in the upper half may come first
swap_one : (js ks : List Pulse) → length js + length ks ≡ 1 → ks ++ js ≡ js ++ ks
swap_one [] ks l = append-nil ks
swap_one (p ∷ []) [] l = refl
swap_one (p ∷ []) (q ∷ ks) l = absurd (omega arith)
swap_one (p ∷ q ∷ js) ks l = absurd (omega arith)

two_swap : (M : ℕ) (p q : Pulse) → p.place < q.place → two_house M (q ∷ p ∷ []) ≡ two_house M (p ∷ q ∷ [])
unfolding two_house
two_swap M p q l = cond-false (leb q.place p.place) _ _ (lt-leb q.place p.place l) ∙ sym (cond-true (leb p.place q.place) _ _ (le-leb p.place q.place (omega arith)))

swap_two : (M H : ℕ) (js ks : List Pulse) → length js + length ks ≡ 2 → InHalf H 0 js → InHalf H 1 ks → two_house M (ks ++ js) ≡ two_house M (js ++ ks)
swap_two M H [] ks l a b = ap (two_house M) (append-nil ks)
swap_two M H (p ∷ []) [] l a b = refl
swap_two M H (p ∷ []) (q ∷ []) l a b =
    two_swap M p q
    (omega (
      arith,
      div-add-mod' p.place (2 ^ H),
      div-add-mod' q.place (2 ^ H),
      ap (λ z. z * 2 ^ H) a.0,
      ap (λ z. z * 2 ^ H) b.0,
      mod_below p.place (2 ^ H) (pow_pos H),
    ))
swap_two M H (p ∷ []) (q ∷ r ∷ ks) l a b = absurd (omega arith)
swap_two M H (p ∷ q ∷ js) [] l a b = ap (two_house M) (sym (append-nil (p ∷ q ∷ js)))
swap_two M H (p ∷ q ∷ js) (r ∷ ks) l a b = absurd (omega arith)

-- the others of a group, where they stand in the list
module _ (H n k : ℕ) (qs : List Pulse) (c : Cutting H qs n) where
  others_low : k ≤ n → n ≤ length qs → others k H 0 qs ≡ drop k qs
  unfolding others
  others_low l m =
      ap₂ (λ y z. y ++ z) (up_drop (0 * 2 ^ H) k (half H 0 qs) ∙ ap (drop k) (ap (up (0 * 2 ^ H)) c.low ∙ up_down H 0 (take n qs) c.lows))
      (ap (up (1 * 2 ^ H)) c.high ∙ up_down H 1 (drop n qs) c.highs)
      ∙ sym (drop-append-le k (take n qs) (drop n qs) (omega (arith, length-take n qs))) ∙ ap (drop k) (take-append-drop n qs)

  others_high : others k H 1 qs ≡ drop (n + k) qs ++ take n qs
  unfolding others
  others_high =
      ap₂ (λ y z. y ++ z)
      (up_drop (1 * 2 ^ H) k (half H 1 qs) ∙ ap (drop k) (ap (up (1 * 2 ^ H)) c.high ∙ up_down H 1 (drop n qs) c.highs) ∙ drop-drop k n qs)
      (ap (up (0 * 2 ^ H)) c.low ∙ up_down H 0 (take n qs) c.lows)

rest_down : (M s k : ℕ) (ps : List Pulse) → down M (take s ps ++ drop (s + k) ps) ≡ take s (down M ps) ++ drop (s + k) (down M ps)
rest_down M s k ps = down_append M (take s ps) (drop (s + k) ps) ∙ ap₂ (λ y z. y ++ z) (sym (take_down M s ps)) (sym (drop_down M (s + k) ps))

module _ (H n k : ℕ) (ps : List Pulse) (a : Sorted (down (suc H) ps)) (e : n ≡ length (half H 0 (down (suc H) ps))) where
  chosen_low : k ≤ n → n ≤ length ps → Chosen k (suc H) ps 0 (take k (drop 0 ps)) (take 0 ps ++ drop (0 + k) ps)
  unfolding fuller
  chosen_low l m =
      let w : H ≡ suc H - 1 = omega arith in
      let c = cut_down H n ps a e in
      let z : 0 + k ≡ k = omega arith in
      let D = down (suc H) ps in
      let g : take k (half H 0 D) ≡ down H (take k ps) =
      ap (take k) (low_down H n ps a e) ∙ take_down H k (take n ps) ∙ ap (down H) (take-take k n ps l) in
      let r : others k H 0 D ≡ down (suc H) (drop (0 + k) ps) =
      others_low H n k D c l (omega (arith, length_down (suc H) ps)) ∙ drop_down (suc H) k ps ∙ ap (λ y. down (suc H) (drop y ps)) (sym z) in
      record {
        chosen = let P : ℕ → Type 0 = λ y. ◌≡◌ {A = ℕ} (cond (leb k (length (half y 0 D))) 0 1) 0 in subst P w (cond-true (leb k (length (half H 0 D))) 0 1 (le-leb k _ (omega arith)));
        is_half = omega arith;
        group_is = let P : ℕ → Type 0 = λ y. take k (half y 0 D) ≡ down y (take k ps) in subst P w g;
        group_sorted = let P : ℕ → Type 0 = λ y. Sorted (down y (take k ps)) in subst P w (subst Sorted g (sorted_take k _ (sorted_half H 0 D a)));
        rest_one = λ _. let P : ℕ → Type 0 = λ y. one_house (suc H) (others k y 0 D) ≡ one_house (suc H) (down (suc H) (drop (0 + k) ps)) in subst P w (ap (one_house (suc H)) r);
        rest_two = λ _. let P : ℕ → Type 0 = λ y. two_house (suc H) (others k y 0 D) ≡ two_house (suc H) (down (suc H) (drop (0 + k) ps)) in subst P w (ap (two_house (suc H)) r);
        rest_sorted = subst Sorted (sym (rest_down (suc H) 0 k ps)) (sorted_without 0 k D a);
      }

  chosen_high : n < k → n ≤ length ps → Chosen k (suc H) ps 1 (take k (drop n ps)) (take n ps ++ drop (n + k) ps)
  unfolding fuller
  chosen_high l m =
      let w : H ≡ suc H - 1 = omega arith in
      let c = cut_down H n ps a e in
      let D = down (suc H) ps in
      let g : take k (half H 1 D) ≡ down H (take k (drop n ps)) = ap (take k) (high_down H n ps a e) ∙ take_down H k (drop n ps) in
      let r : others k H 1 D ≡ drop (n + k) D ++ take n D = others_high H n k D c in
      let d = rest_down (suc H) n k ps in
      let size : length (take n D) + length (drop (n + k) D) ≡ length (take n ps ++ drop (n + k) ps) =
      sym (length-append (take n D) (drop (n + k) D)) ∙ ap length (sym d) ∙ length_down (suc H) (take n ps ++ drop (n + k) ps) in
      let highs : InHalf H 1 (drop (n + k) D) = let P : List Pulse → Type 0 = λ y. InHalf H 1 y in subst P (drop-drop k n D) (All-drop _ k (drop n D) c.highs) in
      record {
        chosen = let P : ℕ → Type 0 = λ y. ◌≡◌ {A = ℕ} (cond (leb k (length (half y 0 D))) 0 1) 1 in subst P w (cond-false (leb k (length (half H 0 D))) 0 1 (lt-leb k _ (omega arith)));
        is_half = omega arith;
        group_is = let P : ℕ → Type 0 = λ y. take k (half y 1 D) ≡ down y (take k (drop n ps)) in subst P w g;
        group_sorted = let P : ℕ → Type 0 = λ y. Sorted (down y (take k (drop n ps))) in subst P w (subst Sorted g (sorted_take k _ (sorted_half H 1 D a)));
        rest_one = λ q. let P : ℕ → Type 0 = λ y. one_house (suc H) (others k y 1 D) ≡ one_house (suc H) (down (suc H) (take n ps ++ drop (n + k) ps)) in
            subst P w (ap (one_house (suc H)) (r ∙ swap_one (take n D) (drop (n + k) D) (size ∙ q) ∙ sym d));
        rest_two = λ q. let P : ℕ → Type 0 = λ y. two_house (suc H) (others k y 1 D) ≡ two_house (suc H) (down (suc H) (take n ps ++ drop (n + k) ps)) in
            subst P w (ap (two_house (suc H)) r ∙ swap_two (suc H) H (take n D) (drop (n + k) D) (size ∙ q) c.lows highs ∙ ap (two_house (suc H)) (sym d));
        rest_sorted = subst Sorted (sym d) (sorted_without n k D a);
      }

-- where the house takes k pulses: s is where they begin
pub chosen_is : (k M n h s : ℕ) (ps : List Pulse) → 1 ≤ M → Sorted (down M ps) → n ≡ length (half (M - 1) 0 (down M ps)) → n ≤ length ps
    → ((k ≤ n) × ((h ≡ 0) × (s ≡ 0))) ⊎ ((n < k) × ((h ≡ 1) × (s ≡ n)))
    → Chosen k M ps h (take k (drop s ps)) (take s ps ++ drop (s + k) ps)
chosen_is k zero n h s ps w a e m c = absurd (omega arith)
chosen_is k (suc H) n h s ps w a e m c =
    let v : suc H - 1 ≡ H = omega arith in
    let f = e ∙ ap (λ z. length (half z 0 (down (suc H) ps))) v in
    let P : ℕ → ℕ → Type 0 = λ y z. Chosen k (suc H) ps y (take k (drop z ps)) (take z ps ++ drop (z + k) ps) in
    ⊎_elim (λ t. subst (λ y. P y s) (sym t.1.0) (subst (λ z. P 0 z) (sym t.1.1) (chosen_low H n k ps a f t.0 m)))
    (λ t. subst (λ y. P y s) (sym t.1.0) (subst (λ z. P 1 z) (sym t.1.1) (chosen_high H n k ps a f t.0 m))) c

-- the same of the slices that the code holds
pub halved_at : (M n : ℕ) (ps low high : List Pulse) → 1 ≤ M → Sorted (down M ps) → n ≡ length (half (M - 1) 0 (down M ps)) → low ≡ take n ps → high ≡ drop n ps → Halved M ps low high
halved_at M n ps low high h a e l r = rw (l, r) (halved_is M n ps h a e)

pub chosen_at : (k M n h s : ℕ) (ps before from group after row : List Pulse) → 1 ≤ M → Sorted (down M ps) → n ≡ length (half (M - 1) 0 (down M ps)) → n ≤ length ps
    → ((k ≤ n) × ((h ≡ 0) × (s ≡ 0))) ⊎ ((n < k) × ((h ≡ 1) × (s ≡ n)))
    → s + k ≤ length ps → before ≡ take s ps → from ≡ drop s ps → group ≡ take k from → after ≡ drop k from
    → take (length before + length after) row ≡ before ++ after
    → Chosen k M ps h group (take (length ps - k) row)
chosen_at k M n h s ps before from group after row w a e m c f b d g r q =
    let x : group ≡ take k (drop s ps) = g ∙ ap (take k) d in
    let y : after ≡ drop (s + k) ps = r ∙ ap (drop k) d ∙ drop-drop k s ps in
    let l : length ps - k ≡ length before + length after = omega (arith, ap length b, ap length y, length-take s ps, length-drop (s + k) ps) in
    let z : take (length ps - k) row ≡ take s ps ++ drop (s + k) ps = ap (λ v. take v row) l ∙ q ∙ ap₂ (λ v u. v ++ u) b y in
    rw (x, z) (chosen_is k M n h s ps w a e m c)

pub sorted_front : (M k : ℕ) (ps qs : List Pulse) → Sorted (down M ps) → qs ≡ take k ps → Sorted (down M qs)
sorted_front M k ps qs a e = rw e (subst Sorted (take_down M k ps) (sorted_take k (down M ps) a))

pub sorted_back : (M k : ℕ) (ps qs : List Pulse) → Sorted (down M ps) → qs ≡ drop k ps → Sorted (down M qs)
sorted_back M k ps qs a e = rw e (subst Sorted (drop_down M k ps) (sorted_drop k (down M ps) a))
