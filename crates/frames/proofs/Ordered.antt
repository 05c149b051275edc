-- Each part has its own place in the order, and so its own slot in the plan.
use Rattle.std.proofs.Common.{◌≡◌, ℕ, zero, suc, ◌+◌, ◌*◌, ◌<◌, ◌≤◌, cond, eqb, ltb, ◌⊎◌, List, [], ◌∷◌, map, length, get_or, filter, sym, refl, ap, ◌∙◌, inl, inr, ⊎_elim, arith}
use Rattle.std.specs.List.{AllByRecursion, range_with_len}
use Rattle.std.proofs.lemmas.List.{get_or-map}
use Rattle.std.proofs.lemmas.List.FromFn.{get_or-range_with_len}
use Rattle.std.proofs.ByRecursion.{All-from_get_or}
use Rattle.std.proofs.lemmas.Bool.{cases_lt, cond_both, lt-ltb, le-ltb, ltb-true, ltb-false, eqb-true, eqb-false}
use Rattle.modes.specs.declared.mode.Mode.{Mode}
use Rattle.modes.specs.declared.field.Field.TheVariants.{Voice, Spectrum, Delay, FilterFlag, Gain, HighBandGain}
use Rattle.modes.specs.declared.plan.Part.{Part}
use Rattle.modes.specs.declared.plan.Part.TheVariants.{Value, High, Low}
use Rattle.modes.specs.declared.plan.Slot.{Slot}
use Rattle.modes.specs.Plan.{part_width, order, slot, plan}
use Rattle.frames.specs.Bits.{place_of, held_for}
use Rattle.modes.proofs.Modes.{pulses_in_none}
use Rattle.frames.proofs.Lags.{by_four}

abbrev pub voice : Part
voice = Value Voice

-- a part has a place of its own, or no mode has it
pub record Placed (p : Part) : Type 0 where
  pub low : place_of p < 56
  pub there : get_or order (place_of p) voice ≡ p

pub record Nowhere (p : Part) : Type 0 where
  pub past : place_of p ≡ 56
  pub none : (m : Mode) → part_width m p ≡ 0

by_seven : (P : ℕ → Type 0) → P 0 → P 1 → P 2 → P 3 → P 4 → P 5 → P 6 → (k : ℕ) → k < 7 → P k
by_seven P a b c d e f g zero h = a
by_seven P a b c d e f g (suc zero) h = b
by_seven P a b c d e f g (suc (suc zero)) h = c
by_seven P a b c d e f g (suc (suc (suc zero))) h = d
by_seven P a b c d e f g (suc (suc (suc (suc zero)))) h = e
by_seven P a b c d e f g (suc (suc (suc (suc (suc zero))))) h = f
by_seven P a b c d e f g (suc (suc (suc (suc (suc (suc zero)))))) h = g
by_seven P a b c d e f g (suc (suc (suc (suc (suc (suc (suc k))))))) h = absurd (omega arith)

abbrev At : Part → Type 0
At p = get_or order (place_of p) voice ≡ p

by_track : (p : ℕ → ℕ → Part)
    → At (p 0 0) → At (p 0 1) → At (p 0 2) → At (p 0 3) → At (p 1 0) → At (p 1 1) → At (p 1 2) → At (p 1 3)
    → At (p 2 0) → At (p 2 1) → At (p 2 2) → At (p 2 3) → At (p 3 0) → At (p 3 1) → At (p 3 2) → At (p 3 3)
    → (s t : ℕ) → s < 4 → t < 4 → At (p s t)
by_track p a b c d e f g h i j k l m n o q s t hs ht =
    by_four (λ s. At (p s t))
    (by_four (λ t. At (p 0 t)) a b c d t ht) (by_four (λ t. At (p 1 t)) e f g h t ht)
    (by_four (λ t. At (p 2 t)) i j k l t ht) (by_four (λ t. At (p 3 t)) m n o q t ht) s hs

in_subframe_lem : (s n : ℕ) → s < 4 → n < 12 → cond (ltb s 4) (8 + 12 * s + n) 56 < 56
in_subframe_lem s n h k = rw (lt-ltb s 4 h) (omega arith)

no_subframe : {X : Type 0} (s : ℕ) (a b : X) → 4 ≤ s → cond (ltb s 4) a b ≡ b
no_subframe s a b h = rw (le-ltb s 4 h)

of_subframe : (x : ℕ → Part) (n : ℕ) → n < 12 → ((s : ℕ) → place_of (x s) ≡ cond (ltb s 4) (8 + 12 * s + n) 56) → ((m : Mode) (s : ℕ) → 4 ≤ s → part_width m (x s) ≡ 0)
    → At (x 0) → At (x 1) → At (x 2) → At (x 3) → (s : ℕ) → Placed (x s) ⊎ Nowhere (x s)
of_subframe x n k e z a b c d s =
    ⊎_elim
    (λ h. inl (record { low = rw (e s) (in_subframe_lem s n h k); there = by_four (λ s. At (x s)) a b c d s h }))
    (λ h. inr (record { past = e s ∙ no_subframe s (8 + 12 * s + n) 56 h; none = λ m. z m s h }))
    (cases_lt s 4)

no_index : (m : Mode) (s t : ℕ) → (4 ≤ s) ⊎ (4 ≤ t) → (part_width m (High s t) ≡ 0) × (part_width m (Low s t) ≡ 0)
no_index m s t h = let e = pulses_in_none m s t h in rw e (refl, refl)

of_track : (p : ℕ → ℕ → Part) (n : ℕ) → n < 8 → ((s t : ℕ) → place_of (p s t) ≡ cond (ltb t 4) (cond (ltb s 4) (8 + 12 * s + (n + t)) 56) 56)
    → ((m : Mode) (s t : ℕ) → (4 ≤ s) ⊎ (4 ≤ t) → part_width m (p s t) ≡ 0)
    → ((s t : ℕ) → s < 4 → t < 4 → At (p s t)) → (s t : ℕ) → Placed (p s t) ⊎ Nowhere (p s t)
of_track p n k e z there s t =
    ⊎_elim
    (λ ht. ⊎_elim
    (λ hs. inl (record { low = rw (e s t, lt-ltb t 4 ht) (in_subframe_lem s (n + t) hs (omega arith)); there = there s t hs ht }))
    (λ hs. inr (record { past = e s t ∙ rw (lt-ltb t 4 ht, le-ltb s 4 hs); none = λ m. z m s t (inl hs) }))
    (cases_lt s 4))
    (λ ht. inr (record { past = e s t ∙ rw (le-ltb t 4 ht); none = λ m. z m s t (inr ht) }))
    (cases_lt t 4)

pub placed : (p : Part) → Placed p ⊎ Nowhere p
placed (Value Voice) = inl (record { low = omega arith; there = refl })
placed (Value (Spectrum k)) =
    ⊎_elim
    (λ h. inl (record { low = rw (lt-ltb k 7 h) (omega arith); there = by_seven (λ k. At (Value (Spectrum k))) refl refl refl refl refl refl refl k h }))
    (λ h. inr (record { past = rw (le-ltb k 7 h); none = λ m. rw (le-ltb k 7 h) }))
    (cases_lt k 7)
placed (Value (Delay s)) = of_subframe (λ s. Value (Delay s)) 0 (omega arith) (λ s. refl) (λ m s h. no_subframe s _ 0 h) refl refl refl refl s
placed (Value (FilterFlag s)) = of_subframe (λ s. Value (FilterFlag s)) 1 (omega arith) (λ s. refl) (λ m s h. no_subframe s _ 0 h) refl refl refl refl s
placed (Value (Gain s)) = of_subframe (λ s. Value (Gain s)) 10 (omega arith) (λ s. refl) (λ m s h. no_subframe s _ 0 h) refl refl refl refl s
placed (Value (HighBandGain s)) = of_subframe (λ s. Value (HighBandGain s)) 11 (omega arith) (λ s. refl) (λ m s h. no_subframe s _ 0 h) refl refl refl refl s
placed (High s t) =
    of_track High 2 (omega arith) (λ s t. refl) (λ m s t h. (no_index m s t h).0)
    (by_track High refl refl refl refl refl refl refl refl refl refl refl refl refl refl refl refl) s t
placed (Low s t) =
    of_track Low 6 (omega arith) (λ s t. refl) (λ m s t h. (no_index m s t h).1)
    (by_track Low refl refl refl refl refl refl refl refl refl refl refl refl refl refl refl refl) s t

-- in the order every part stands at its place
places : map place_of order ≡ range_with_len 0 56
places = refl

abbrev Own : Part → Part → Type 0
Own p q = place_of q ≡ place_of p → q ≡ p

pub at_place : (k : ℕ) → k < 56 → place_of (get_or order k voice) ≡ k
at_place k h = sym (get_or-map place_of order k voice 0 h) ∙ ap (λ xs. get_or xs k 0) places ∙ get_or-range_with_len 0 56 k 0 h ∙ omega arith

own : (p : Part) → AllByRecursion (Own p) order
own p =
    All-from_get_or (Own p) order voice (λ k h e.
    let k-is : k ≡ place_of p = sym (at_place k h) ∙ e in
    ⊎_elim
    (λ l. ap (λ j. get_or order j voice) k-is ∙ l.there)
    (λ n. absurd (omega (arith, h, n.past)))
    (placed p))

-- the slots of some parts, and what stands for each
abbrev slots_of : Mode → List Part → List Slot
slots_of m ps = filter (λ s. ltb 0 s.width) (map (slot m) ps)

abbrev held : (Part → ℕ) → List Slot → Part → ℕ
held g ss p = held_for ss (map (λ s. g s.part) ss) p

absent : (m : Mode) (g : Part → ℕ) (p : Part) (ps : List Part) → part_width m p ≡ 0 → AllByRecursion (Own p) ps → held g (slots_of m ps) p ≡ 0
absent m g p [] z us = refl
absent m g p (q ∷ qs) z us =
    cond_both (ltb 0 (part_width m q)) (slot m q ∷ slots_of m qs) (slots_of m qs) (λ ss. held g ss p ≡ 0)
    (λ e. cond_both (eqb (place_of q) (place_of p)) (g q) (held g (slots_of m qs) p) (λ v. v ≡ 0)
    (λ t. let same : q ≡ p = us.0 (eqb-true (place_of q) (place_of p) t) in
    absurd (omega (arith, ltb-true 0 (part_width m q) e, ap (part_width m) same, z)))
    (λ t. absent m g p qs z us.1))
    (λ e. absent m g p qs z us.1)

present : (m : Mode) (g : Part → ℕ) (p : Part) (ps : List Part) (k : ℕ) → 0 < part_width m p → AllByRecursion (Own p) ps → k < length ps → get_or ps k voice ≡ p → held g (slots_of m ps) p ≡ g p
present m g p [] k has us l e = absurd (omega arith)
present m g p (q ∷ qs) zero has us l e =
    cond_both (ltb 0 (part_width m q)) (slot m q ∷ slots_of m qs) (slots_of m qs) (λ ss. held g ss p ≡ g p)
    (λ b. cond_both (eqb (place_of q) (place_of p)) (g q) (held g (slots_of m qs) p) (λ v. v ≡ g p)
    (λ t. ap g e)
    (λ t. absurd (eqb-false (place_of q) (place_of p) t (ap place_of e))))
    (λ b. absurd (omega (arith, ltb-false 0 (part_width m q) b, ap (part_width m) e)))
present m g p (q ∷ qs) (suc k) has us l e =
    cond_both (ltb 0 (part_width m q)) (slot m q ∷ slots_of m qs) (slots_of m qs) (λ ss. held g ss p ≡ g p)
    (λ b. cond_both (eqb (place_of q) (place_of p)) (g q) (held g (slots_of m qs) p) (λ v. v ≡ g p)
    (λ t. ap g (us.0 (eqb-true (place_of q) (place_of p) t)))
    (λ t. present m g p qs k has us.1 (omega arith) e))
    (λ b. present m g p qs k has us.1 (omega arith) e)

-- what stands for a part among the values of a plan
pub held_is : (m : Mode) (g : Part → ℕ) (p : Part) → (part_width m p ≡ 0 → g p ≡ 0) → held_for (plan m) (map (λ s. g s.part) (plan m)) p ≡ g p
unfolding plan
held_is m g p z =
    ⊎_elim
    (λ has. ⊎_elim
    (λ l. present m g p order (place_of p) has (own p) l.low l.there)
    (λ n. absurd (omega (arith, has, n.none m)))
    (placed p))
    (λ no. let e : part_width m p ≡ 0 = omega arith in absent m g p order e (own p) ∙ sym (z e))
    (cases_lt 0 (part_width m p))

-- every slot of a plan is a part with its width
all_slots : (m : Mode) (P : Slot → Type 0) → ((p : Part) → P (slot m p)) → (ps : List Part) → AllByRecursion P (slots_of m ps)
all_slots m P h [] = tt
all_slots m P h (q ∷ qs) =
    cond_both (ltb 0 (part_width m q)) (slot m q ∷ slots_of m qs) (slots_of m qs) (λ ss. AllByRecursion P ss)
    (λ b. (h q, all_slots m P h qs)) (λ b. all_slots m P h qs)

pub plan_all : (m : Mode) (P : Slot → Type 0) → ((p : Part) → P (slot m p)) → AllByRecursion P (plan m)
unfolding plan
plan_all m P h = all_slots m P h order
