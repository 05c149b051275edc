-- What is left of a plan after some slots.
use Rattle.std.proofs.Common.{◌≡◌, ℕ, zero, suc, ◌+◌, ◌<◌, ltb, List, [], ◌∷◌, length, drop, filter, map, Some, None, refl, arith, rules}
use Rattle.std.proofs.lemmas.Bool.{cond_both}
use Rattle.modes.specs.declared.mode.Mode.{Mode}
use Rattle.modes.specs.declared.plan.Part.{Part}
use Rattle.modes.specs.declared.plan.Slot.{Slot}
use Rattle.modes.specs.Plan.{plan, order, slot, nth}
use Rattle.modes.proofs.Listed.{few}

pub none_left : (ss : List Slot) (k : ℕ) → None ≡ nth ss k → drop k ss ≡ []
none_left [] zero e = refl
none_left [] (suc k) e = refl
none_left (s ∷ ss) zero e = absurd (search rules)
none_left (s ∷ ss) (suc k) e = none_left ss k e

pub some_left : (ss : List Slot) (k : ℕ) (s : Slot) → Some s ≡ nth ss k → drop k ss ≡ s ∷ drop (k + 1) ss
some_left [] k s e = absurd (search rules)
some_left (t ∷ ss) zero s e = search rules
some_left (t ∷ ss) (suc k) s e = let w : suc k + 1 ≡ suc (k + 1) = omega arith in rw w (some_left ss k s e)

in_list : (ss : List Slot) (k : ℕ) (s : Slot) → Some s ≡ nth ss k → k < length ss
in_list [] k s e = absurd (search rules)
in_list (t ∷ ss) zero s e = omega arith
in_list (t ∷ ss) (suc k) s e = let l = in_list ss k s e in omega arith

pub in_plan : (m : Mode) (k : ℕ) (s : Slot) → Some s ≡ nth (plan m) k → k < 56
in_plan m k s e = omega (arith, in_list (plan m) k s e, few m)

abbrev OwnSlot : Mode → List Slot → Type 0
OwnSlot m ss = (k : ℕ) (s : Slot) → Some s ≡ nth ss k → s ≡ slot m s.part

own_more : (m : Mode) (p : Part) (ss : List Slot) → OwnSlot m ss → OwnSlot m (slot m p ∷ ss)
own_more m p ss h zero s e = search rules
own_more m p ss h (suc k) s e = h k s e

own_slots : (m : Mode) (ps : List Part) → OwnSlot m (filter (λ s. ltb 0 s.width) (map (slot m) ps))
own_slots m [] = λ k s e. absurd (search rules)
own_slots m (p ∷ ps) =
    let rest : List Slot = filter (λ s. ltb 0 s.width) (map (slot m) ps) in
    let old = own_slots m ps in
    cond_both (ltb 0 (slot m p).width) (slot m p ∷ rest) rest (OwnSlot m) (λ _. own_more m p rest old) (λ _. old)

-- a slot of a plan is as wide as the mode has its part
pub own_width : (m : Mode) (k : ℕ) (s : Slot) → Some s ≡ nth (plan m) k → s ≡ slot m s.part
unfolding plan
own_width m k s e = own_slots m order k s e
