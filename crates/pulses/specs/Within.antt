-- Pulses that lie in a part of a track, and how the writing of an index cuts a sorted list of them. Assumes Pulses, House.
--   down M ps                    every place counted from the first place of its part of width M
--   Halved M ps low high         low and high are what stands in the two halves of a part of width M
--   Chosen k M ps h group rest   group is the lowest k of half h, the half that the house takes them from, and rest what is left
--   FullerHalf M ps h full rest  full is what stands in half h, the first half with three pulses or more, and rest what stands in the other
use Rattle.std.specs.Prelude.{◌≡◌, ℕ, ◌-◌, ◌%◌, ◌^◌, ◌<◌, List, [], ◌∷◌, map, length, take}
use Rattle.std.specs.List.{AllByRecursion-prop}
use Rattle.std.specs.Coded.{×_prop, Unit-prop, le_prop}
use Rattle.pulses.specs.declared.pulse.Pulse.{Pulse}
use Rattle.pulses.specs.Pulses.{pulse, half, Sorted}
use Rattle.pulses.specs.House.{fuller, others, one_house, two_house}

unfoldable pub down : ℕ → List Pulse → List Pulse
down M ps = map (λ p. pulse (p.place % 2 ^ M) p.sign) ps

-- there is one proof at most that pulses stand from the lowest place up
pub sorted_prop : (ps : List Pulse) → IsProp (Sorted ps)
sorted_prop [] = Unit-prop
sorted_prop (p ∷ ps) = ×_prop (AllByRecursion-prop _ (λ q. le_prop) ps) (sorted_prop ps)

pub record Halved (M : ℕ) (ps low high : List Pulse) : Type 0 where
  pub low_is : half (M - 1) 0 (down M ps) ≡ down (M - 1) low
  pub high_is : half (M - 1) 1 (down M ps) ≡ down (M - 1) high
  pub low_sorted : Sorted (down (M - 1) low)
  pub high_sorted : Sorted (down (M - 1) high)

pub record Chosen (k M : ℕ) (ps : List Pulse) (h : ℕ) (group rest : List Pulse) : Type 0 where
  pub chosen : fuller k (M - 1) (down M ps) ≡ h
  pub is_half : h < 2
  pub group_is : take k (half (M - 1) h (down M ps)) ≡ down (M - 1) group
  pub group_sorted : Sorted (down (M - 1) group)
  pub rest_one : length rest ≡ 1 → one_house M (others k (M - 1) h (down M ps)) ≡ one_house M (down M rest)
  pub rest_two : length rest ≡ 2 → two_house M (others k (M - 1) h (down M ps)) ≡ two_house M (down M rest)
  pub rest_sorted : Sorted (down M rest)

pub record FullerHalf (M : ℕ) (ps : List Pulse) (h : ℕ) (full rest : List Pulse) : Type 0 where
  pub fuller_is : fuller 3 (M - 1) (down M ps) ≡ h
  pub is_half : h < 2
  pub full_is : half (M - 1) h (down M ps) ≡ down (M - 1) full
  pub rest_is : half (M - 1) (1 - h) (down M ps) ≡ down (M - 1) rest
