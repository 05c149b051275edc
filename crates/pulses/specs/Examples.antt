-- Worked examples of the index rules, at width 4 unless said. Assumes Rules, Calls.
--   StandsFor n M ps i   i is the house index of the n pulses ps: by the rules, in writing and in strict reading
use Rattle.std.specs.Prelude.{◌≡◌, ℕ, List, [], ◌∷◌, Ok, Err}
use Rattle.refusals.specs.declared.cause.Cause.TheVariants.{BothSigns}
use Rattle.refusals.specs.Spots.{because}
use Rattle.pulses.specs.declared.pulse.Pulse.{Pulse}
use Rattle.pulses.specs.declared.pulse.Sign.TheVariants.{Plus, Minus}
use Rattle.pulses.specs.declared.index.Reading.TheVariants.{Strict, Open}
use Rattle.pulses.specs.Pulses.{pulse}
use Rattle.pulses.specs.Rules.{Choice, Index}
use Rattle.pulses.specs.Calls.{write_index, read_index}

abbrev pub plus : ℕ → Pulse
plus p = pulse p Plus

abbrev pub minus : ℕ → Pulse
minus p = pulse p Minus

pub record StandsFor (n M : ℕ) (ps : List Pulse) (i : ℕ) : Type 0 where
  pub by_the_rules : Index Choice.house n M ps i
  pub written : write_index M ps ≡ Ok i
  pub read : read_index Strict n M i ≡ Ok ps

pub record WorkedExamples : Type 0 where
  pub one_at_width_5 : StandsFor 1 5 (minus 3 ∷ []) 35
  pub two_plus : StandsFor 2 4 (plus 3 ∷ plus 7 ∷ []) 55
  pub plus_then_minus : StandsFor 2 4 (plus 3 ∷ minus 7 ∷ []) 371
  pub minus_then_plus : StandsFor 2 4 (minus 3 ∷ plus 7 ∷ []) 115
  pub two_on_one_place : StandsFor 2 4 (minus 7 ∷ minus 7 ∷ []) 375
  pub three : StandsFor 3 4 (plus 1 ∷ plus 2 ∷ minus 3 ∷ []) 4874
  pub both_signs : Index Choice.free 3 4 (plus 5 ∷ plus 5 ∷ minus 5 ∷ []) 5421 × (read_index Open 3 4 5421 ≡ Err (because BothSigns))
  pub four : StandsFor 4 4 (plus 1 ∷ minus 2 ∷ plus 9 ∷ minus 15 ∷ []) 43257
  pub four_of_ones : StandsFor 4 4 (minus 7 ∷ minus 7 ∷ minus 7 ∷ minus 15 ∷ []) 65535
  pub five : StandsFor 5 4 (plus 0 ∷ plus 1 ∷ plus 2 ∷ plus 3 ∷ plus 4 ∷ []) 66100
  pub six_halved : StandsFor 6 4 (plus 0 ∷ plus 1 ∷ plus 2 ∷ minus 8 ∷ minus 9 ∷ minus 10 ∷ []) 3278481
  pub six_uneven : StandsFor 6 4 (plus 0 ∷ plus 1 ∷ plus 2 ∷ plus 3 ∷ plus 4 ∷ plus 15 ∷ []) 1116615
