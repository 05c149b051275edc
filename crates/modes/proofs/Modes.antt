-- What holds of each mode, by computing it.
use Rattle.std.proofs.Common.{◌≡◌, ℕ, zero, suc, ◌+◌, ◌<◌, ◌≤◌, cond, Bool, true, false, ltb, leb, ◌⊎◌, List, [], ◌∷◌, length, get_or, refl, inl, inr, ⊎_elim, arith, lit≤, leb-true}
use Rattle.std.specs.List.{list_all}
use Rattle.std.proofs.lemmas.Bool.{and_parts, cases_lt}
use Rattle.std.proofs.lemmas.List.{get_or_past}
use Rattle.std.proofs.lemmas.Bool.Decides.{nat_tests}
use Rattle.modes.specs.declared.mode.Mode.{Mode}
use Rattle.modes.specs.declared.mode.Mode.TheVariants.{Rate6k60, Rate8k85, Rate12k65, Rate14k25, Rate15k85, Rate18k25, Rate19k85, Rate23k05, Rate23k85}
use Rattle.modes.specs.Modes.{row, pulses_in}
use Rattle.modes.specs.Plan.{plan, total, Totals}
use Rattle.modes.specs.Places.{cuts, each, size}

pub by_mode : (P : Mode → Type 0) → P Rate6k60 → P Rate8k85 → P Rate12k65 → P Rate14k25 → P Rate15k85 → P Rate18k25 → P Rate19k85 → P Rate23k05 → P Rate23k85 → (m : Mode) → P m
by_mode P a b c d e f g h i Rate6k60 = a
by_mode P a b c d e f g h i Rate8k85 = b
by_mode P a b c d e f g h i Rate12k65 = c
by_mode P a b c d e f g h i Rate14k25 = d
by_mode P a b c d e f g h i Rate15k85 = e
by_mode P a b c d e f g h i Rate18k25 = f
by_mode P a b c d e f g h i Rate19k85 = g
by_mode P a b c d e f g h i Rate23k05 = h
by_mode P a b c d e f g h i Rate23k85 = i

pub size_is : (m : Mode) → size m ≡ total (plan m)
unfolding plan pulses_in
size_is = by_mode (λ m. size m ≡ total (plan m)) refl refl refl refl refl refl refl refl refl

pub size_most : (m : Mode) → size m ≤ 477
size_most = by_mode (λ m. size m ≤ 477) (lit≤ tt) (lit≤ tt) (lit≤ tt) (lit≤ tt) (lit≤ tt) (lit≤ tt) (lit≤ tt) (lit≤ tt) (lit≤ tt)

pub totals : Totals
unfolding plan pulses_in
totals = refl

-- a test that every element passes, and the default too
pub passed : {X : Type 0} (p : X → Bool) (xs : List X) (k : ℕ) (d : X) → p d ≡ true → list_all p xs ≡ true → p (get_or xs k d) ≡ true
passed p [] k d e h = e
passed p (x ∷ xs) zero d e h = (and_parts _ _ h).0
passed p (x ∷ xs) (suc k) d e h = passed p xs k d e (and_parts _ _ h).1

pub pulses_few : (m : Mode) (t : ℕ) → get_or (row m).pulses t 0 ≤ 6
pulses_few m t =
    let row = by_mode (λ m. list_all (λ x. leb x 6) (row m).pulses ≡ true) refl refl refl refl refl refl refl refl refl m in
    leb-true _ _ (passed (λ x. leb x 6) _ t 0 refl row)

pub pulses_long : (m : Mode) → length (row m).pulses ≡ 4
pulses_long = by_mode (λ m. length (row m).pulses ≡ 4) refl refl refl refl refl refl refl refl refl

pub pulses_in_here : (m : Mode) (s t : ℕ) → s < 4 → pulses_in m s t ≡ get_or (row m).pulses t 0
unfolding pulses_in
pulses_in_here m s t h = let e : ltb s 4 ≡ true = grind (arith, nat_tests) in rw e

pub pulses_in_few : (m : Mode) (s t : ℕ) → pulses_in m s t ≤ 6
unfolding pulses_in
pulses_in_few m s t =
    elim (cases_lt s 4) [
      | inl h ↦ rw (pulses_in_here m s t h) (pulses_few m t)
      | inr h ↦ let e : ltb s 4 ≡ false = grind (arith, nat_tests) in rw e (omega arith)
    ]

pub pulses_in_none : (m : Mode) (s t : ℕ) → 4 ≤ s ⊎ 4 ≤ t → pulses_in m s t ≡ 0
unfolding pulses_in
pulses_in_none m s t (inl h) = let e : ltb s 4 ≡ false = grind (arith, nat_tests) in rw e
pulses_in_none m s t (inr h) = rw (get_or_past (row m).pulses t 0 (omega (arith, pulses_long m))) (grind (arith, nat_tests))

-- where there are pulses, there is the track
pub pulses_in_has : (m : Mode) (s t : ℕ) → 0 < pulses_in m s t → (s < 4) × (t < 4)
pulses_in_has m s t h = (
  ⊎_elim (λ l. l) (λ l. absurd (omega (arith, pulses_in_none m s t (inl l)))) (cases_lt s 4),
  ⊎_elim (λ l. l) (λ l. absurd (omega (arith, pulses_in_none m s t (inr l)))) (cases_lt t 4),
)

-- the slots of a subframe: delay, filter flag, high parts, low parts, gain, gain of the high band
pub each_counted : (m : Mode) → 2 + (row m).filter + cuts m + (row m).tracks + cond (ltb 0 (row m).band) 1 0 ≡ each m
each_counted = by_mode (λ m. 2 + (row m).filter + cuts m + (row m).tracks + cond (ltb 0 (row m).band) 1 0 ≡ each m) refl refl refl refl refl refl refl refl refl
