-- What the two index calls answer, and the laws of those answers. Assumes Pulses, Rules, Reading, House, Sets.
--   used n M           some mode uses n pulses on a track of width M
--   choice how         what a way of reading stands for: strict reading takes the house's indices alone, open reading every index
--   write_index M ps   the answer to writing the pulses ps, in any sequence
--   read_index how n M i   the set of the index i, in order, or why it is refused
--   handed room r      the answer after the last question: is the buffer long enough?
--   filled out r       what stands in the buffer then
--   Exactly A B        A holds exactly when B does
use Rattle.std.specs.Prelude.{◌≡◌, ℕ, ◌^◌, ◌<◌, Bool, true, cond, ◌&&◌, ◌||◌, List, ◌++◌, length, drop, IfOk, Ok, Err, Result, ◌==◌, nat_le, nat_lt}
use Rattle.refusals.specs.declared.cause.Cause.TheVariants.{WrongNumber, NoSuchIndex, NotHouseIndex, BufferTooShort}
use Rattle.refusals.specs.declared.refusal.Refusal.{Refusal}
use Rattle.refusals.specs.Spots.{because}
use Rattle.pulses.specs.declared.pulse.Pulse.{Pulse}
use Rattle.pulses.specs.declared.index.Reading.{Reading}
use Rattle.pulses.specs.declared.index.Reading.TheVariants.{Strict, Open}
use Rattle.pulses.specs.Pulses.{Same, Lawful, Sorted, EqualAmplitudes, sort}
use Rattle.pulses.specs.Rules.{Choice, Index, bits}
use Rattle.pulses.specs.Reading.{pulses_of}
use Rattle.pulses.specs.House.{house}
use Rattle.pulses.specs.Sets.{checked, map_ok}

-- one pulse at width 5, one to six at width 4
abbrev pub used : ℕ → ℕ → Bool
used n M = (M == 5 && n == 1) || (M == 4 && (nat_le 1 n && nat_le n 6))

abbrev pub choice : Reading → Choice
choice Strict = Choice.house
choice Open = Choice.free

unfoldable pub write_index : ℕ → List Pulse → Result ℕ Refusal
write_index M ps = cond (used (length ps) M) (map_ok (house (length ps) M) (checked M ps)) (Err (because WrongNumber))

-- whether i may stand for the set whose house index is h
abbrev pub accepts : Reading → ℕ → ℕ → Bool
accepts Strict h i = h == i
accepts Open h i = true

abbrev pub kept : Reading → ℕ → ℕ → ℕ → Result (List Pulse) Refusal → Result (List Pulse) Refusal
kept how n M i (Ok ps) = cond (accepts how (house n M ps) i) (Ok ps) (Err (because NotHouseIndex))
kept how n M i (Err e) = Err e

unfoldable pub read_index : Reading → ℕ → ℕ → ℕ → Result (List Pulse) Refusal
read_index how n M i = cond (used n M && nat_lt i (2 ^ bits n M)) (kept how n M i (checked M (pulses_of n M i))) (Err (because NoSuchIndex))

abbrev pub handed : ℕ → Result (List Pulse) Refusal → Result ℕ Refusal
handed room (Ok ps) = cond (nat_le (length ps) room) (Ok (length ps)) (Err (because BufferTooShort))
handed room (Err e) = Err e

abbrev pub filled : List Pulse → Result (List Pulse) Refusal → List Pulse
filled out (Ok ps) = cond (nat_le (length ps) (length out)) (ps ++ drop (length ps) out) out
filled out (Err e) = out

pub record Exactly (A B : Type 0) : Type 0 where
  pub forth : A → B
  pub back : B → A

-- reading gives a set exactly when the number is an index of it by the rules: strictly by the house's choices, openly by any
abbrev pub ReadsByTheRules : Reading → ℕ → ℕ → ℕ → Type 0
ReadsByTheRules how n M i =
    (ps : List Pulse) → Exactly (read_index how n M i ≡ Ok ps) ((used n M ≡ true) × (Index (choice how) n M ps i × (Lawful ps × Sorted ps)))

-- every number in bounds is an index of exactly one set: the one that reading undoes it to
pub record HasOneSet (n M i : ℕ) : Type 0 where
  pub its_index : Index Choice.free n M (pulses_of n M i) i
  pub no_other : (ps : List Pulse) → Index Choice.free n M ps i → Same ps (pulses_of n M i)

abbrev pub EveryNumberHasOneSet : ℕ → ℕ → ℕ → Type 0
EveryNumberHasOneSet n M i = used n M ≡ true → i < 2 ^ bits n M → HasOneSet n M i

-- what strict reading accepts, open reading reads as the same set
abbrev pub StrictIsOpen : ℕ → ℕ → ℕ → Type 0
StrictIsOpen n M i = (ps : List Pulse) → read_index Strict n M i ≡ Ok ps → read_index Open n M i ≡ Ok ps

-- strict reading accepts exactly the numbers that writing gives
abbrev pub AcceptsExactlyWhatIsWritten : ℕ → ℕ → ℕ → Type 0
AcceptsExactlyWhatIsWritten n M i =
    Exactly ((ps : List Pulse) × (read_index Strict n M i ≡ Ok ps)) ((qs : List Pulse) × ((length qs ≡ n) × (write_index M qs ≡ Ok i)))

-- writing gives the only index of the set by the house's choices
pub record OnlyHouseIndex (M : ℕ) (ps : List Pulse) (i : ℕ) : Type 0 where
  pub its_index : Index Choice.house (length ps) M ps i
  pub no_other : (j : ℕ) → Index Choice.house (length ps) M ps j → j ≡ i

abbrev pub GivesTheOnlyHouseIndex : ℕ → List Pulse → Type 0
GivesTheOnlyHouseIndex M ps = IfOk (write_index M ps) (OnlyHouseIndex M ps)

-- whatever the sequence of the pulses
abbrev pub WhateverTheSequence : ℕ → List Pulse → Type 0
WhateverTheSequence M ps = (qs : List Pulse) (i : ℕ) → Same ps qs → write_index M ps ≡ Ok i → write_index M qs ≡ Ok i

-- reading a written index gives the set again, from the lowest place up
abbrev pub IsReadAgain : ℕ → List Pulse → Type 0
IsReadAgain M ps = IfOk (write_index M ps) (λ i. (read_index Strict (length ps) M i ≡ Ok (sort ps)) × (Same (sort ps) ps × Sorted (sort ps)))

-- two written sets of one number have one index exactly when their amplitudes are equal at every place: then they are one set
abbrev pub AmplitudesTellTheSet : ℕ → List Pulse → Type 0
AmplitudesTellTheSet M ps =
    (qs : List Pulse) (i j : ℕ) → length qs ≡ length ps → write_index M ps ≡ Ok i → write_index M qs ≡ Ok j
    → Exactly (i ≡ j) (EqualAmplitudes ps qs) × (EqualAmplitudes ps qs → Same ps qs)
