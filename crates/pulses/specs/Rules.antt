-- The rules of the indices, as relations between a set of pulses and a number: "this number is an index of this set".
-- Assumes Pulses. This is the text to believe; reading and the house index are proved to be its two sides.
--   Choice                whether a rule's choices are free, or those of the house: the house index of a set is the one that our writers use
--   One .. Six v M ps i   by that rule, i is an index of the set ps on a track of width M
--   Index v n M ps i      the same by the rule for n pulses
--   bits n M              how many bits an index of n pulses on a track of width M has
-- The width M is suc H where a rule speaks of halves: half h begins at place h * 2 ^ H, and a group named with a half is on width H.
use Rattle.std.specs.Prelude.{◌≡◌, ℕ, zero, suc, ◌+◌, ◌-◌, ◌*◌, ◌^◌, ◌<◌, ◌≤◌, List, [], ◌∷◌, ◌++◌, length}
use Rattle.std.specs.List.{AllByRecursion}
use Rattle.pulses.specs.declared.pulse.Pulse.{Pulse}
use Rattle.pulses.specs.declared.pulse.Sign.{Sign}
use Rattle.pulses.specs.Pulses.{pulse, bit, opposite, Same, up, half}

pub data Choice : Type 0 where
  free house : Choice

-- the house takes the lowest: no pulse of the second list stands below one of the first
abbrev pub Lowest : Choice → List Pulse → List Pulse → Type 0
Lowest free ps qs = Unit {0}
Lowest house ps qs = AllByRecursion (λ p. AllByRecursion (λ q. p.place ≤ q.place) qs) ps

-- the house takes a pair out of half 1 only where half 0 has not two
abbrev pub LowerFirst : Choice → ℕ → ℕ → List Pulse → Type 0
LowerFirst free H h ps = Unit {0}
LowerFirst house H h ps = h ≡ 1 → length (half H 0 ps) < 2

pub data One : ℕ → List Pulse → ℕ → Type 0 where
  one : (M p : ℕ) (s : Sign) (ps : List Pulse) → p < 2 ^ M → Same ps (pulse p s ∷ []) → One M ps (p + bit s * 2 ^ M)

pub data Two : ℕ → List Pulse → ℕ → Type 0 where
  equal : (M a b : ℕ) (s : Sign) (ps : List Pulse)
      → a < 2 ^ M → b < 2 ^ M → a ≤ b → Same ps (pulse a s ∷ pulse b s ∷ [])
      → Two M ps (b + a * 2 ^ M + bit s * 2 ^ (2 * M))
  unequal : (M a b : ℕ) (s : Sign) (ps : List Pulse)
      → a < 2 ^ M → b < 2 ^ M → b < a → Same ps (pulse a s ∷ pulse b (opposite s) ∷ [])
      → Two M ps (b + a * 2 ^ M + bit s * 2 ^ (2 * M))

pub data Three (v : Choice) : ℕ → List Pulse → ℕ → Type 0 where
  three : (H h i j : ℕ) (ps pair third : List Pulse)
      → h < 2 → Same ps (up (h * 2 ^ H) pair ++ third) → Lowest v pair (half H h third) → Two H pair i → One (suc H) third j
      → Three v (suc H) ps (i + h * 2 ^ (2 * suc H - 1) + j * 2 ^ (2 * suc H))

pub data Close (v : Choice) : ℕ → List Pulse → ℕ → Type 0 where
  close : (H h i j : ℕ) (ps pair others : List Pulse)
      → h < 2 → Same ps (up (h * 2 ^ H) pair ++ others) → Lowest v pair (half H h others) → LowerFirst v H h ps → Two H pair i → Two (suc H) others j
      → Close v (suc H) ps (i + h * 2 ^ (2 * suc H - 1) + j * 2 ^ (2 * suc H))

-- the number before the body is that of the pulses in half 0, mod 4
pub data Four (v : Choice) : ℕ → List Pulse → ℕ → Type 0 where
  all_in : (H h i : ℕ) (ps group : List Pulse)
      → h < 2 → Same ps (up (h * 2 ^ H) group) → Close v H group i
      → Four v (suc H) ps (0 * 2 ^ (4 * suc H - 2) + (h * 2 ^ (4 * suc H - 3) + i))
  one_three : (H i j : ℕ) (ps low high : List Pulse)
      → Same ps (low ++ up (2 ^ H) high) → One H low i → Three v H high j
      → Four v (suc H) ps (1 * 2 ^ (4 * suc H - 2) + (i * 2 ^ (3 * suc H - 2) + j))
  two_two : (H i j : ℕ) (ps low high : List Pulse)
      → Same ps (low ++ up (2 ^ H) high) → Two H low i → Two H high j
      → Four v (suc H) ps (2 * 2 ^ (4 * suc H - 2) + (i * 2 ^ (2 * suc H - 1) + j))
  three_one : (H i j : ℕ) (ps low high : List Pulse)
      → Same ps (low ++ up (2 ^ H) high) → Three v H low i → One H high j
      → Four v (suc H) ps (3 * 2 ^ (4 * suc H - 2) + (i * 2 ^ suc H + j))

pub data Five (v : Choice) : ℕ → List Pulse → ℕ → Type 0 where
  five : (H h i j : ℕ) (ps triple others : List Pulse)
      → h < 2 → Same ps (up (h * 2 ^ H) triple ++ others) → Lowest v triple (half H h others) → Three v H triple i → Two (suc H) others j
      → Five v (suc H) ps (h * 2 ^ (5 * suc H - 1) + i * 2 ^ (2 * suc H + 1) + j)

-- the number before the body is that of the pulses in the emptier half; h is the fuller half
pub data Six (v : Choice) : ℕ → List Pulse → ℕ → Type 0 where
  none : (H h i j : ℕ) (ps quint sixth : List Pulse)
      → h < 2 → Same ps (up (h * 2 ^ H) quint ++ up (h * 2 ^ H) sixth) → Lowest v quint sixth → Five v H quint i → One H sixth j
      → Six v (suc H) ps (0 * 2 ^ (6 * suc H - 4) + (h * 2 ^ (6 * suc H - 5) + (i * 2 ^ suc H + j)))
  single : (H h i j : ℕ) (ps quint sixth : List Pulse)
      → h < 2 → Same ps (up (h * 2 ^ H) quint ++ up ((1 - h) * 2 ^ H) sixth) → Five v H quint i → One H sixth j
      → Six v (suc H) ps (1 * 2 ^ (6 * suc H - 4) + (h * 2 ^ (6 * suc H - 5) + (i * 2 ^ suc H + j)))
  double : (H h i j : ℕ) (ps four pair : List Pulse)
      → h < 2 → Same ps (up (h * 2 ^ H) four ++ up ((1 - h) * 2 ^ H) pair) → Four v H four i → Two H pair j
      → Six v (suc H) ps (2 * 2 ^ (6 * suc H - 4) + (h * 2 ^ (6 * suc H - 5) + (i * 2 ^ (2 * suc H - 1) + j)))
  triple : (H i j : ℕ) (ps low high : List Pulse)
      → Same ps (low ++ up (2 ^ H) high) → Three v H low i → Three v H high j
      → Six v (suc H) ps (3 * 2 ^ (6 * suc H - 4) + (i * 2 ^ (3 * suc H - 2) + j))

-- the rule for n pulses
abbrev pub Index : Choice → ℕ → ℕ → List Pulse → ℕ → Type 0
Index v zero M ps i = ⊥
Index v (suc zero) M ps i = One M ps i
Index v (suc (suc zero)) M ps i = Two M ps i
Index v (suc (suc (suc zero))) M ps i = Three v M ps i
Index v (suc (suc (suc (suc zero)))) M ps i = Four v M ps i
Index v (suc (suc (suc (suc (suc zero))))) M ps i = Five v M ps i
Index v (suc (suc (suc (suc (suc (suc zero)))))) M ps i = Six v M ps i
Index v (suc (suc (suc (suc (suc (suc (suc n))))))) M ps i = ⊥

abbrev pub bits : ℕ → ℕ → ℕ
bits zero M = 0
bits (suc zero) M = M + 1
bits (suc (suc zero)) M = 2 * M + 1
bits (suc (suc (suc zero))) M = 3 * M + 1
bits (suc (suc (suc (suc zero)))) M = 4 * M
bits (suc (suc (suc (suc (suc zero))))) M = 5 * M
bits (suc (suc (suc (suc (suc (suc zero)))))) M = 6 * M - 2
bits (suc (suc (suc (suc (suc (suc (suc n))))))) M = 0
