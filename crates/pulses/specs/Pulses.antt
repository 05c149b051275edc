-- Signed pulses on a track, and sets of them: lists in which only how often a pulse stands counts. Assumes nothing.
--   bit s          what a sign stands for: its sign bit
--   opposite s     the other sign
--   alike s t      whether two signs are one
--   pulse p s      the pulse at place p with sign s
--   tally ps x s   how many pulses of ps have place x and sign s
--   Same ps qs     ps and qs are one set
--   Lawful ps      no place has both signs
--   On M ps        every place is on the track of width M
--   Sorted ps      from the lowest place up
--   Group M n ps   n pulses on a track of width M, a lawful set
--   up n ps        every place n higher
--   half H h ps    what stands in half h of a track of width H + 1, counted from that half's first place
--   sort ps        ps from the lowest place up
use Rattle.std.specs.Prelude.{◌≡◌, ℕ, ◌+◌, ◌/◌, ◌%◌, ◌^◌, ◌<◌, ◌≤◌, Bool, true, false, cond, ◌&&◌, ◌⊎◌, List, [], ◌∷◌, map, length, filter, ◌==◌, nat_eq, nat_le}
use Rattle.std.specs.List.{AllByRecursion}
use Rattle.pulses.specs.declared.pulse.Pulse.{Pulse}
use Rattle.pulses.specs.declared.pulse.Sign.{Sign}
use Rattle.pulses.specs.declared.pulse.Sign.TheVariants.{Plus, Minus}

abbrev pub bit : Sign → ℕ
bit Plus = 0
bit Minus = 1

abbrev pub opposite : Sign → Sign
opposite Plus = Minus
opposite Minus = Plus

abbrev pub alike : Sign → Sign → Bool
alike Plus Plus = true
alike Plus Minus = false
alike Minus Plus = false
alike Minus Minus = true

abbrev pub pulse : ℕ → Sign → Pulse
pulse p s = record { place = p; sign = s }

-- 1 if the pulse has this place and sign, else 0
unfoldable pub hit : Pulse → ℕ → Sign → ℕ
hit p x s = cond (p.place == x && alike p.sign s) 1 0

abbrev pub tally : List Pulse → ℕ → Sign → ℕ
tally [] x s = 0
tally (p ∷ ps) x s = hit p x s + tally ps x s

abbrev pub Same : List Pulse → List Pulse → Type 0
Same ps qs = (x : ℕ) (s : Sign) → tally ps x s ≡ tally qs x s

abbrev pub Lawful : List Pulse → Type 0
Lawful ps = (x : ℕ) → (tally ps x Plus ≡ 0) ⊎ (tally ps x Minus ≡ 0)

abbrev pub On : ℕ → List Pulse → Type 0
On M ps = AllByRecursion (λ p. p.place < 2 ^ M) ps

abbrev pub Sorted : List Pulse → Type 0
Sorted [] = Unit {0}
Sorted (p ∷ ps) = AllByRecursion (λ q. p.place ≤ q.place) ps × Sorted ps

pub record Group (M n : ℕ) (ps : List Pulse) : Type 0 where
  pub size : length ps ≡ n
  pub on : On M ps
  pub lawful : Lawful ps

unfoldable pub up : ℕ → List Pulse → List Pulse
up n ps = map (λ p. pulse (p.place + n) p.sign) ps

unfoldable pub half : ℕ → ℕ → List Pulse → List Pulse
half H h ps = map (λ p. pulse (p.place % 2 ^ H) p.sign) (filter (λ p. nat_eq (p.place / 2 ^ H) h) ps)

-- the amplitude at place x is how many plus pulses it has less how many minus pulses: these two have the same at every place
abbrev pub EqualAmplitudes : List Pulse → List Pulse → Type 0
EqualAmplitudes ps qs = (x : ℕ) → tally ps x Plus + tally qs x Minus ≡ tally qs x Plus + tally ps x Minus

unfoldable pub insert : Pulse → List Pulse → List Pulse
insert p [] = p ∷ []
insert p (q ∷ qs) = cond (nat_le p.place q.place) (p ∷ q ∷ qs) (q ∷ insert p qs)

unfoldable pub sort : List Pulse → List Pulse
sort [] = []
sort (p ∷ ps) = insert p (sort ps)
