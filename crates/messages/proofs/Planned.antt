-- What holds of the slots of a plan: each is a part with its width, and their places rise.
use Rattle.std.proofs.Common.{◌≡◌, ℕ, zero, suc, ◌<◌, ◌≤◌, Bool, true, ◌&&◌, ltb, leb, List, [], ◌∷◌, map, length, get_or, filter, sym, refl, ap, ◌∙◌, subst, ⊎_elim, arith}
use Rattle.std.specs.List.{AllByRecursion}
use Rattle.std.proofs.lemmas.Bool.{cond_both, ltb-true, leb-true, ltb-false, and_parts}
use Rattle.modes.specs.declared.mode.Mode.{Mode}
use Rattle.modes.specs.declared.plan.Part.{Part}
use Rattle.modes.specs.declared.plan.Slot.{Slot}
use Rattle.modes.specs.Modes.{pulses_in}
use Rattle.modes.specs.Plan.{part_width, order, slot, plan}
use Rattle.modes.proofs.Modes.{by_mode}
use Rattle.frames.specs.Bits.{place_of}
use Rattle.frames.proofs.Ordered.{voice, placed}

abbrev slots_of : Mode → List Part → List Slot
slots_of m ps = filter (λ s. ltb 0 s.width) (map (slot m) ps)

each : (m : Mode) (P : Slot → Type 0) → ((p : Part) → 0 < part_width m p → P (slot m p)) → (ps : List Part) → AllByRecursion P (slots_of m ps)
each m P h [] = tt
each m P h (q ∷ qs) =
    cond_both (ltb 0 (part_width m q)) (slot m q ∷ slots_of m qs) (slots_of m qs) (λ ss. AllByRecursion P ss)
    (λ b. (h q (ltb-true 0 (part_width m q) b), each m P h qs)) (λ b. each m P h qs)

-- what holds of each part that the mode has holds of each slot
pub plan_each : (m : Mode) (P : Slot → Type 0) → ((p : Part) → 0 < part_width m p → P (slot m p)) → AllByRecursion P (plan m)
unfolding plan
plan_each m P h = each m P h order

one : (m : Mode) (P : Slot → Type 0) (p : Part) → 0 < part_width m p → (ps : List Part) (k : ℕ) → k < length ps → get_or ps k voice ≡ p → AllByRecursion P (slots_of m ps) → P (slot m p)
one m P p has [] k l e us = absurd (omega arith)
one m P p has (q ∷ qs) zero l e us =
    cond_both (ltb 0 (part_width m q)) (slot m q ∷ slots_of m qs) (slots_of m qs) (λ ss. AllByRecursion P ss → P (slot m p))
    (λ b vs. subst (λ r. P (slot m r)) e vs.0)
    (λ b vs. absurd (omega (arith, ltb-false 0 (part_width m q) b, ap (part_width m) e, has))) us
one m P p has (q ∷ qs) (suc k) l e us =
    cond_both (ltb 0 (part_width m q)) (slot m q ∷ slots_of m qs) (slots_of m qs) (λ ss. AllByRecursion P ss → P (slot m p))
    (λ b vs. one m P p has qs k (omega arith) e vs.1) (λ b vs. one m P p has qs k (omega arith) e vs) us

-- and back
pub plan_part : (m : Mode) (P : Slot → Type 0) (p : Part) → 0 < part_width m p → AllByRecursion P (plan m) → P (slot m p)
unfolding plan
plan_part m P p has us =
    ⊎_elim
    (λ l. one m P p has order (place_of p) l.low l.there us)
    (λ n. absurd (omega (arith, has, n.none m)))
    (placed p)

pub own_place : (m : Mode) (p q : Part) → 0 < part_width m q → place_of q ≡ place_of p → q ≡ p
own_place m p q has e =
    ⊎_elim
    (λ a. ⊎_elim
    (λ b. sym a.there ∙ ap (λ k. get_or order k voice) e ∙ b.there)
    (λ n. absurd (omega (arith, a.low, n.past)))
    (placed p))
    (λ n. absurd (omega (arith, has, n.none m)))
    (placed q)

-- no slot has the place of a part that the mode lacks
abbrev pub Away : ℕ → List Slot → Type 0
Away q ss = AllByRecursion (λ s. place_of s.part ≡ q → ⊥) ss

pub plan_away : (m : Mode) (p : Part) → part_width m p ≡ 0 → Away (place_of p) (plan m)
plan_away m p z = plan_each m (λ s. place_of s.part ≡ place_of p → ⊥) (λ q has e. let w = ap (part_width m) (own_place m p q has e) in omega (arith, has, w, z))

-- the places rise
rising_from : ℕ → List Slot → Bool
rising_from b [] = true
rising_from b (s ∷ ss) = (leb b (place_of s.part) && ltb (place_of s.part) 56) && rising_from (suc (place_of s.part)) ss

pub Rises : ℕ → List Slot → Type 0
Rises b ss = rising_from b ss ≡ true

pub rises_head : (b : ℕ) (s : Slot) (ss : List Slot) → Rises b (s ∷ ss) → (b ≤ place_of s.part) × (place_of s.part < 56) × Rises (suc (place_of s.part)) ss
unfolding Rises rising_from
rises_head b s ss h =
    let p = and_parts _ _ h in
    let q = and_parts _ _ p.0 in
    (leb-true b (place_of s.part) q.0, ltb-true (place_of s.part) 56 q.1, p.1)

pub rises_away : (b q : ℕ) (ss : List Slot) → Rises b ss → q < b → Away q ss
rises_away b q [] h l = tt
rises_away b q (s ∷ ss) h l =
    let p = rises_head b s ss h in
    ((λ e. omega (arith, p.0)), rises_away (suc (place_of s.part)) q ss p.2 (omega (arith, p.0)))

pub plan_rises : (m : Mode) → Rises 0 (plan m)
unfolding Rises rising_from plan pulses_in
plan_rises = by_mode (λ m. rising_from 0 (plan m) ≡ true) refl refl refl refl refl refl refl refl refl
