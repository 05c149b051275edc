-- The house's index of a group is an index of it by the rules.
use Rattle.std.proofs.Common.{◌≡◌, ℕ, zero, suc, ◌-◌, ◌*◌, ◌^◌, ◌<◌, ◌≤◌, leb, List, [], ◌∷◌, ◌++◌, length, take, drop, sym, refl, ap, ◌∙◌, ⊎_elim, arith}
use Rattle.pulses.specs.declared.pulse.Sign.{Sign}
use Rattle.pulses.specs.declared.pulse.Sign.TheVariants.{Plus, Minus}
use Rattle.std.proofs.lemmas.Bool.{leb-true, leb-false, cond_both}
use Rattle.std.proofs.lemmas.List.{nil_from_length}
use Rattle.pulses.specs.declared.pulse.Pulse.{Pulse}
use Rattle.pulses.specs.Pulses.{pulse, hit, tally, Same, Lawful, Sorted, up, half, Group, opposite}
use Rattle.pulses.specs.Rules.{Choice, One, Two, Three, Close, Four, Five, Six}
use Rattle.pulses.specs.House.{one_house, two_places, two_rising, two_house, fuller, others, three_by, three_house, close_by, close_house, four_halves, four_house, five_by, five_house, six_halves, six_house}
use Rattle.pulses.proofs.Cuts.{zero_or_one}
use Rattle.pulses.proofs.Tallies.{up_by, hit_self, same_trans, same_append, same_refl, same_sym, up_zero, tally_append, lawful_same}
use Rattle.pulses.proofs.Halves.{Halves, halves, parted, full, group_take, group_drop, up_parts, takes_lowest, takes_lower, sorted_half, sorted_take, lowest_first}

pub one_houses : (M : ℕ) (ps : List Pulse) → Group M 1 ps → One M ps (one_house M ps)
unfolding one_house
one_houses M [] g = absurd (omega (arith, g.size))
one_houses M (p ∷ []) g = One.one M p.place p.sign (p ∷ []) g.on.0 (same_refl (p ∷ []))
one_houses M (p ∷ q ∷ ps) g = absurd (omega (arith, g.size))

hit_at : (a b : ℕ) (s : Sign) → a ≡ b → hit (pulse a s) b s ≡ 1
hit_at a b s e = ap (λ z. hit (pulse a s) z s) (sym e) ∙ hit_self a s

apart : (a b : ℕ) (s t : Sign) (ps : List Pulse) → t ≡ opposite s → Lawful (pulse a s ∷ pulse b t ∷ []) → a ≡ b → ⊥
apart a b Minus Minus ps f l e = let z : ◌≡◌ {A = ℕ} 0 1 = cc in omega arith
apart a b Plus Plus ps f l e = let z : ◌≡◌ {A = ℕ} 0 1 = cc in omega arith
apart a b Minus Plus ps f l e = ⊎_elim (λ k. omega (arith, hit_at b a Plus (sym e))) (λ k. omega (arith, hit_self a Minus)) (l a)
apart a b Plus Minus ps f l e = ⊎_elim (λ k. omega (arith, hit_self a Plus)) (λ k. omega (arith, hit_at b a Minus (sym e))) (l a)

swap_two : (p q : Pulse) → Same (p ∷ q ∷ []) (q ∷ p ∷ [])
swap_two p q x s = omega arith

two_rises : (M a b : ℕ) (s t : Sign) (ps : List Pulse) → a < 2 ^ M → b < 2 ^ M → a ≤ b → Lawful (pulse a s ∷ pulse b t ∷ [])
    → Same ps (pulse a s ∷ pulse b t ∷ []) → Two M ps (two_rising M (pulse a s) (pulse b t))
unfolding two_rising two_places
two_rises M a b Minus Minus ps h k o l e = Two.equal M a b Minus ps h k o e
two_rises M a b Plus Plus ps h k o l e = Two.equal M a b Plus ps h k o e
two_rises M a b Minus Plus ps h k o l e =
    let n : a ≡ b → ⊥ = apart a b Minus Plus ps refl l in
    Two.unequal M b a Plus ps k h (omega arith) (λ x s. e x s ∙ swap_two (pulse a Minus) (pulse b Plus) x s)
two_rises M a b Plus Minus ps h k o l e =
    let n : a ≡ b → ⊥ = apart a b Plus Minus ps refl l in
    Two.unequal M b a Minus ps k h (omega arith) (λ x s. e x s ∙ swap_two (pulse a Plus) (pulse b Minus) x s)

pub two_houses : (M : ℕ) (ps : List Pulse) → Group M 2 ps → Two M ps (two_house M ps)
unfolding two_house
two_houses M [] g = absurd (omega (arith, g.size))
two_houses M (p ∷ []) g = absurd (omega (arith, g.size))
two_houses M (p ∷ q ∷ []) g =
    cond_both (leb p.place q.place) (two_rising M p q) (two_rising M q p) (Two M (p ∷ q ∷ []))
    (λ e.
    two_rises M p.place q.place p.sign q.sign _ g.on.0 g.on.1.0 (leb-true p.place q.place e) g.lawful
    (same_refl (p ∷ q ∷ [])))
    (λ e.
    let l = leb-false p.place q.place e in
    two_rises M q.place p.place q.sign p.sign _ g.on.1.0 g.on.0 (omega arith)
    (lawful_same (p ∷ q ∷ []) (q ∷ p ∷ []) (swap_two p q) g.lawful) (swap_two p q))
two_houses M (p ∷ q ∷ r ∷ ps) g = absurd (omega (arith, g.size))

pub three_houses : (M : ℕ) (ps : List Pulse) → 1 ≤ M → Group M 3 ps → Sorted ps → Three Choice.house M ps (three_house M ps)
unfolding three_house three_by
three_houses zero ps w g a = absurd (omega arith)
three_houses (suc H) ps w g a =
    let f = full 2 H 3 ps (omega arith) g in
    let h = fuller 2 H ps in
    let r = parted H h 2 3 ps f.is_half f.has g in
    Three.three H h _ _ ps (take 2 (half H h ps)) (others 2 H h ps) f.is_half r.same (takes_lowest H h 2 ps f.is_half a) (two_houses H _ r.front) (one_houses (suc H) _ r.rest)

pub close_houses : (M : ℕ) (ps : List Pulse) → 1 ≤ M → Group M 4 ps → Sorted ps → Close Choice.house M ps (close_house M ps)
unfolding close_house close_by
close_houses zero ps w g a = absurd (omega arith)
close_houses (suc H) ps w g a =
    let f = full 2 H 4 ps (omega arith) g in
    let h = fuller 2 H ps in
    let r = parted H h 2 4 ps f.is_half f.has g in
    Close.close H h _ _ ps (take 2 (half H h ps)) (others 2 H h ps) f.is_half r.same (takes_lowest H h 2 ps f.is_half a) (takes_lower H h ps f) (two_houses H _ r.front) (two_houses (suc H) _ r.rest)

pub group_size : (M n m : ℕ) (ps : List Pulse) → n ≡ m → Group M n ps → Group M m ps
group_size M n m ps e g = record { size = g.size ∙ e; on = g.on; lawful = g.lawful }

none_left : (js ks : List Pulse) → length js ≡ 0 → Same (js ++ ks) ks
none_left js ks e x s = omega (arith, tally_append js ks x s, ap (λ z. tally z x s) (nil_from_length js e))

none_right : (js ks : List Pulse) → length ks ≡ 0 → Same (js ++ ks) js
none_right js ks e x s = omega (arith, tally_append js ks x s, ap (λ z. tally z x s) (nil_from_length ks e))

length_up_none : (n : ℕ) (ps : List Pulse) → length ps ≡ 0 → length (up n ps) ≡ 0
unfolding up
length_up_none n [] e = refl
length_up_none n (p ∷ ps) e = absurd (omega arith)

four_split : (H n : ℕ) (ps low high : List Pulse) → 1 ≤ H → n ≤ 4 → Same ps (low ++ up (2 ^ H) high) → Group H n low → Group H (4 - n) high → Sorted low → Sorted high
    → Four Choice.house (suc H) ps (four_halves H n low high)
unfolding four_halves
four_split H zero ps low high w m e g k a o =
    Four.all_in H 1 _ ps high (omega arith)
    (same_trans ps _ _ e (same_trans _ (up (2 ^ H) high) _ (none_left low _ g.size) (up_by (2 ^ H) (1 * 2 ^ H) high (omega arith)))) (close_houses H high w k o)
four_split H (suc zero) ps low high w m e g k a o = Four.one_three H _ _ ps low high e (one_houses H low g) (three_houses H high w k o)
four_split H (suc (suc zero)) ps low high w m e g k a o = Four.two_two H _ _ ps low high e (two_houses H low g) (two_houses H high k)
four_split H (suc (suc (suc zero))) ps low high w m e g k a o = Four.three_one H _ _ ps low high e (three_houses H low w g a) (one_houses H high k)
four_split H (suc (suc (suc (suc n)))) ps low high w m e g k a o =
    Four.all_in H 0 _ ps low (omega arith)
    (same_trans ps _ _ e (same_trans _ low _ (none_right low _ (length_up_none (2 ^ H) high (omega (arith, k.size))))
    (same_trans low (up 0 low) _ (same_sym _ low (up_zero low)) (up_by 0 (0 * 2 ^ H) low (omega arith)))))
    (close_houses H low w (group_size H _ 4 low (omega arith) g) a)

-- the halves 0 and 1, where half 0 is where it stands
lower_first : (H n : ℕ) (ps : List Pulse) → Halves H 0 n ps → Same ps (half H 0 ps ++ up (2 ^ H) (half H 1 ps))
lower_first H n ps r =
    let a = half H 0 ps in
    let o = half H 1 ps in
    same_trans ps _ _ r.same
    (same_append (up (0 * 2 ^ H) a) a (up (1 * 2 ^ H) o) (up (2 ^ H) o) (same_trans _ (up 0 a) _ (up_by (0 * 2 ^ H) 0 a (omega arith)) (up_zero a))
    (up_by (1 * 2 ^ H) (2 ^ H) o (omega arith)))

pub four_houses : (M : ℕ) (ps : List Pulse) → 2 ≤ M → Group M 4 ps → Sorted ps → Four Choice.house M ps (four_house M ps)
unfolding four_house
four_houses zero ps w g a = absurd (omega arith)
four_houses (suc H) ps w g a =
    let r = halves H 0 4 ps (omega arith) g in
    four_split H (length (half H 0 ps)) ps (half H 0 ps) (half H 1 ps) (omega arith) (omega (arith, r.long)) (lower_first H 4 ps r) r.here
    (group_size H _ _ (half H 1 ps) (omega (arith, r.long)) r.there) (sorted_half H 0 ps a) (sorted_half H 1 ps a)

pub five_houses : (M : ℕ) (ps : List Pulse) → 2 ≤ M → Group M 5 ps → Sorted ps → Five Choice.house M ps (five_house M ps)
unfolding five_house five_by
five_houses zero ps w g a = absurd (omega arith)
five_houses (suc H) ps w g a =
    let f = full 3 H 5 ps (omega arith) g in
    let h = fuller 3 H ps in
    let r = parted H h 3 5 ps f.is_half f.has g in
    Five.five H h _ _ ps (take 3 (half H h ps)) (others 3 H h ps) f.is_half r.same (takes_lowest H h 3 ps f.is_half a)
    (three_houses H _ (omega arith) r.front (sorted_take 3 _ (sorted_half H h ps a))) (two_houses (suc H) _ r.rest)

six_split : (H n h : ℕ) (ps full rest : List Pulse) → 2 ≤ H → n ≤ 3 → h < 2 → (n ≡ 3 → h ≡ 0)
    → Same ps (up (h * 2 ^ H) full ++ up ((1 - h) * 2 ^ H) rest) → Group H (6 - n) full → Group H n rest → Sorted full → Sorted rest → Six Choice.house (suc H) ps (six_halves H n h full rest)
unfolding six_halves
six_split H zero h ps full rest w m b z e g k a o =
    Six.none H h _ _ ps (take 5 full) (drop 5 full) b
    (same_trans ps _ _ e (same_trans _ (up (h * 2 ^ H) full) _ (none_right (up (h * 2 ^ H) full) _ (length_up_none ((1 - h) * 2 ^ H) rest k.size)) (up_parts (h * 2 ^ H) 5 full)))
    (lowest_first 5 full a) (five_houses H _ w (group_take H 5 6 full (omega arith) g) (sorted_take 5 full a)) (one_houses H _ (group_drop H 5 6 full g))
six_split H (suc zero) h ps full rest w m b z e g k a o = Six.single H h _ _ ps full rest b e (five_houses H full w g a) (one_houses H rest k)
six_split H (suc (suc zero)) h ps full rest w m b z e g k a o = Six.double H h _ _ ps full rest b e (four_houses H full w g a) (two_houses H rest k)
six_split H (suc (suc (suc n))) h ps full rest w m b z e g k a o =
    Six.triple H _ _ ps full rest
    (same_trans ps _ _ e
    (same_append (up (h * 2 ^ H) full) full (up ((1 - h) * 2 ^ H) rest) (up (2 ^ H) rest)
    (same_trans _ (up 0 full) _ (up_by (h * 2 ^ H) 0 full (ap (λ y. y * 2 ^ H) (z (omega arith)) ∙ omega arith)) (up_zero full))
    (up_by ((1 - h) * 2 ^ H) (2 ^ H) rest (ap (λ y. (1 - y) * 2 ^ H) (z (omega arith)) ∙ omega arith))))
    (three_houses H full (omega arith) (group_size H _ 3 full (omega arith) g) a) (three_houses H rest (omega arith) (group_size H _ 3 rest (omega arith) k) o)

pub six_houses : (M : ℕ) (ps : List Pulse) → 3 ≤ M → Group M 6 ps → Sorted ps → Six Choice.house M ps (six_house M ps)
unfolding six_house
six_houses zero ps w g a = absurd (omega arith)
six_houses (suc H) ps w g a =
    let f = full 3 H 6 ps (omega arith) g in
    let h = fuller 3 H ps in
    let r = halves H h 6 ps f.is_half g in
    let z : length (half H (1 - h) ps) ≡ 3 → h ≡ 0 =
    λ t. ⊎_elim (λ e. e) (λ e. absurd (omega (arith, f.else e, ap (λ y. length (half H (1 - y) ps)) e))) (zero_or_one h f.is_half) in
    six_split H (length (half H (1 - h) ps)) h ps (half H h ps) (half H (1 - h) ps) (omega arith) (omega (arith, r.long, f.has)) f.is_half z r.same
    (group_size H _ _ (half H h ps) (omega (arith, r.long)) r.here) r.there (sorted_half H h ps a) (sorted_half H (1 - h) ps a)
