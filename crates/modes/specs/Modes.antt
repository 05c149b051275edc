-- The table of the modes. Assumes nothing.
--   number_of m   what a mode stands for: its number, 0 to 8
--   modes         the modes, by their numbers
--   mode_of n     the mode with the number n, if there is one
--   Numbered n r  the answer r for the number n: the mode with it, or that there is none, and n is no number 0 to 8
--   row m         what the mode m gives a frame; 0 bits or 0 pulses: the mode has no such field or track
--     spectrum        the bits of spectrum fields 0 to 6
--     delays          the bits of the delays of subframes 0 to 3
--     filter          the bits of a subframe's filter flag
--     gain            the bits of a subframe's gain
--     band            the bits of a subframe's high band gain
--     pulses          the pulses of tracks 0 to 3
--     places          the width of a track: it has 2 ^ places places
--     tracks          how many tracks share a subframe's samples: place p of track t is sample p * tracks + t
--   pulses_in m s t   the pulses of track t of subframe s
use Rattle.std.specs.Prelude.{◌≡◌, ℕ, zero, suc, ◌≤◌, cond, List, [], ◌∷◌, Some, None, Option, Ok, Err, Result, nat_lt, slice_index}
use Rattle.refusals.specs.declared.cause.Cause.{Cause}
use Rattle.refusals.specs.declared.cause.Cause.TheVariants.{NoSuchMode}
use Rattle.modes.specs.declared.mode.Mode.{Mode}
use Rattle.modes.specs.declared.mode.Mode.TheVariants.{Rate6k60, Rate8k85, Rate12k65, Rate14k25, Rate15k85, Rate18k25, Rate19k85, Rate23k05, Rate23k85}

abbrev pub number_of : Mode → ℕ
number_of Rate6k60 = 0
number_of Rate8k85 = 1
number_of Rate12k65 = 2
number_of Rate14k25 = 3
number_of Rate15k85 = 4
number_of Rate18k25 = 5
number_of Rate19k85 = 6
number_of Rate23k05 = 7
number_of Rate23k85 = 8

abbrev pub modes : List Mode
modes = Rate6k60 ∷ Rate8k85 ∷ Rate12k65 ∷ Rate14k25 ∷ Rate15k85 ∷ Rate18k25 ∷ Rate19k85 ∷ Rate23k05 ∷ Rate23k85 ∷ []

abbrev pub nth : List Mode → ℕ → Option Mode
nth [] n = None
nth (m ∷ ms) zero = Some m
nth (m ∷ ms) (suc n) = nth ms n

abbrev pub mode_of : ℕ → Option Mode
mode_of n = nth modes n

abbrev pub Numbered : ℕ → Result Mode Cause → Type 0
Numbered n (Ok m) = (Some m ≡ mode_of n) × (number_of m ≡ n)
Numbered n (Err c) = (c ≡ NoSuchMode) × (None ≡ mode_of n) × (9 ≤ n)

pub record Row : Type 0 where
  pub spectrum : List ℕ
  pub delays : List ℕ
  pub filter : ℕ
  pub gain : ℕ
  pub band : ℕ
  pub pulses : List ℕ
  pub places : ℕ
  pub tracks : ℕ

abbrev four : ℕ → ℕ → ℕ → ℕ → List ℕ
four a b c d = a ∷ b ∷ c ∷ d ∷ []

abbrev rest : List ℕ
rest = 8 ∷ 8 ∷ 6 ∷ 7 ∷ 7 ∷ 5 ∷ 5 ∷ []

-- a row of the modes from 12.65 kbit/s on
abbrev upper : ℕ → List ℕ → Row
upper b ps = record { spectrum = rest; delays = four 9 6 9 6; filter = 1; gain = 7; band = b; pulses = ps; places = 4; tracks = 4 }

abbrev pub row : Mode → Row
row Rate6k60 = record { spectrum = 8 ∷ 8 ∷ 7 ∷ 7 ∷ 6 ∷ 0 ∷ 0 ∷ []; delays = four 8 5 5 5; filter = 0; gain = 6; band = 0; pulses = four 1 1 0 0; places = 5; tracks = 2 }
row Rate8k85 = record { spectrum = rest; delays = four 8 5 8 5; filter = 0; gain = 6; band = 0; pulses = four 1 1 1 1; places = 4; tracks = 4 }
row Rate12k65 = upper 0 (four 2 2 2 2)
row Rate14k25 = upper 0 (four 3 3 2 2)
row Rate15k85 = upper 0 (four 3 3 3 3)
row Rate18k25 = upper 0 (four 4 4 4 4)
row Rate19k85 = upper 0 (four 5 5 4 4)
row Rate23k05 = upper 0 (four 6 6 6 6)
row Rate23k85 = upper 4 (four 6 6 6 6)

unfoldable pub pulses_in : Mode → ℕ → ℕ → ℕ
pulses_in m s t = cond (nat_lt s 4) (slice_index (row m).pulses t) 0
