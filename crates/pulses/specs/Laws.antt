-- What holds of the indices of one to six pulses, at every width at which the rules can be followed. Assumes Pulses, Rules, Reading, House.
--   Fits n M   the rules for n pulses can be followed on a track of width M
use Rattle.std.specs.Prelude.{◌≡◌, ℕ, ◌+◌, ◌^◌, ◌<◌, ◌≤◌, List}
use Rattle.pulses.specs.declared.pulse.Pulse.{Pulse}
use Rattle.pulses.specs.Pulses.{Same, Sorted, Group, sort}
use Rattle.pulses.specs.Rules.{Choice, Index, bits}
use Rattle.pulses.specs.Reading.{pulses_of}
use Rattle.pulses.specs.House.{house}

pub record Fits (n M : ℕ) : Type 0 where
  pub some : 1 ≤ n
  pub few : n ≤ 6
  pub wide : n ≤ M + 2

-- an index by the rules is in bounds, and what is read from it is the set
abbrev pub ReadingIsRight : Type 0
ReadingIsRight = (v : Choice) (n M : ℕ) (ps : List Pulse) (i : ℕ) → Index v n M ps i → (i < 2 ^ bits n M) × Same ps (pulses_of n M i)

-- every number in bounds is an index of what is read from it
abbrev pub EveryNumberReads : Type 0
EveryNumberReads = (n M i : ℕ) → Fits n M → i < 2 ^ bits n M → Index Choice.free n M (pulses_of n M i) i

-- the house follows the rules
abbrev pub HouseFollows : Type 0
HouseFollows = (n M : ℕ) (ps : List Pulse) → Fits n M → Group M n ps → Sorted ps → Index Choice.house n M ps (house n M ps)

-- and by the house's choices no other number is an index of the set: qs is its sorted list
abbrev pub HouseAlone : Type 0
HouseAlone =
    (n M : ℕ) (ps qs : List Pulse) (i : ℕ) → Index Choice.house n M ps i → Sorted qs → Group M n qs → Same ps qs → i ≡ house n M qs

-- what is written is read again
abbrev pub RoundTrip : Type 0
RoundTrip =
    (n M : ℕ) (ps : List Pulse) → Fits n M → Group M n ps → Sorted ps
    → (house n M ps < 2 ^ bits n M) × (sort (pulses_of n M (house n M ps)) ≡ ps)

-- two sets with one house index are one set
abbrev pub HouseTellsApart : Type 0
HouseTellsApart =
    (n M : ℕ) (ps qs : List Pulse) → Fits n M → Group M n ps → Group M n qs → Sorted ps → Sorted qs
    → house n M ps ≡ house n M qs → ps ≡ qs
