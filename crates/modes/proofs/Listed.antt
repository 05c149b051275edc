-- The computed slots are those of the plan.
use Rattle.std.proofs.Common.{◌≡◌, ℕ, zero, suc, ◌-◌, ◌/◌, ◌≤◌, true, ◌&&◌, leb, List, [], ◌∷◌, map, length, get_or, None, Option, sym, refl, ap, ◌∙◌, inl, inr, arith, lit≤}
use Rattle.std.specs.List.{range_with_len, list_all}
use Rattle.std.proofs.lemmas.Bool.{cases_lt, le-ltb, leb-true, and_parts}
use Rattle.std.proofs.lemmas.List.FromFn.{get_or-map-range_with_len}
use Rattle.modes.specs.declared.mode.Mode.{Mode}
use Rattle.modes.specs.declared.plan.Slot.{Slot}
use Rattle.modes.specs.Modes.{pulses_in}
use Rattle.modes.specs.Plan.{plan, nth, Narrow}
use Rattle.modes.specs.Places.{heads, each, slot_at}
use Rattle.modes.proofs.Modes.{by_mode}

listed : (m : Mode) → map (slot_at m) (range_with_len 0 56) ≡ map (nth (plan m)) (range_with_len 0 56)
unfolding plan pulses_in slot_at
listed = by_mode (λ m. map (slot_at m) (range_with_len 0 56) ≡ map (nth (plan m)) (range_with_len 0 56)) refl refl refl refl refl refl refl refl refl

nth_past : (ss : List Slot) (k : ℕ) → length ss ≤ k → nth ss k ≡ None
nth_past [] k h = refl
nth_past (s ∷ ss) zero h = absurd (omega arith)
nth_past (s ∷ ss) (suc k) h = nth_past ss k (omega arith)

pub few : (m : Mode) → length (plan m) ≤ 56
unfolding plan pulses_in
few = by_mode (λ m. length (plan m) ≤ 56) (lit≤ tt) (lit≤ tt) (lit≤ tt) (lit≤ tt) (lit≤ tt) (lit≤ tt) (lit≤ tt) (lit≤ tt) (lit≤ tt)

none_at : (m : Mode) (k : ℕ) → 4 ≤ (k - heads m) / each m → heads m ≤ k → slot_at m k ≡ None
unfolding slot_at
none_at m k h l = rw (le-ltb k (heads m) l, le-ltb ((k - heads m) / each m) 4 h)

far : (k : ℕ) → 56 ≤ k → (m : Mode) → slot_at m k ≡ None
far k h =
    by_mode (λ m. slot_at m k ≡ None)
    (none_at _ k (omega arith) (omega arith)) (none_at _ k (omega arith) (omega arith)) (none_at _ k (omega arith) (omega arith))
    (none_at _ k (omega arith) (omega arith)) (none_at _ k (omega arith) (omega arith)) (none_at _ k (omega arith) (omega arith))
    (none_at _ k (omega arith) (omega arith)) (none_at _ k (omega arith) (omega arith)) (none_at _ k (omega arith) (omega arith))

pub places : (m : Mode) (k : ℕ) → slot_at m k ≡ nth (plan m) k
places m k =
    elim (cases_lt k 56) [
      | inl l ↦ sym (get_or-map-range_with_len (slot_at m) 0 56 k k None l (omega arith))
          ∙ ap (λ (xs : List (Option Slot)). get_or xs k None) (listed m)
          ∙ get_or-map-range_with_len (nth (plan m)) 0 56 k k None l (omega arith)
      | inr l ↦ far k l m ∙ sym (nth_past (plan m) k (omega (arith, few m)))
    ]

-- every slot of a plan has 1 to 14 bits
tested : (m : Mode) → list_all (λ s. leb 1 s.width && leb s.width 14) (plan m) ≡ true
unfolding plan pulses_in
tested = by_mode (λ m. list_all (λ s. leb 1 s.width && leb s.width 14) (plan m) ≡ true) refl refl refl refl refl refl refl refl refl

narrow_in : (ss : List Slot) (k : ℕ) → list_all (λ s. leb 1 s.width && leb s.width 14) ss ≡ true → Narrow (nth ss k)
narrow_in [] k h = tt
narrow_in (s ∷ ss) zero h = let w = and_parts (leb 1 s.width) (leb s.width 14) (and_parts _ _ h).0 in (leb-true 1 s.width w.0, leb-true s.width 14 w.1)
narrow_in (s ∷ ss) (suc k) h = narrow_in ss k (and_parts _ _ h).1

pub narrow : (m : Mode) (k : ℕ) → Narrow (nth (plan m) k)
narrow m k = narrow_in (plan m) k (tested m)
