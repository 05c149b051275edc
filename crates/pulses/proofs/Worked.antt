-- The worked examples, by computing the definitions and by the laws.
use Rattle.std.proofs.Common.{◌≡◌, ℕ, true, List, [], ◌∷◌, length, Ok, refl, ap, ◌∙◌, subst, arith}
use Rattle.pulses.specs.declared.pulse.Pulse.{Pulse}
use Rattle.pulses.specs.Pulses.{hit, up, half, insert, sort, Group, Sorted}
use Rattle.pulses.specs.Rules.{Choice, Index}
use Rattle.pulses.specs.Reading.{one_of, pair_of, two_of, three_of, close_of, four_of, five_of, six_of, four_by, six_by, six_uneven}
use Rattle.pulses.specs.House.{one_house, two_places, two_rising, two_house, fuller, others, three_by, three_house, close_by, close_house, four_halves, four_house, five_by, five_house, six_halves, six_house, house}
use Rattle.pulses.specs.Sets.{on_track, one_signed, checked}
use Rattle.pulses.specs.Calls.{used, write_index, read_index}
use Rattle.pulses.specs.Examples.{plus, minus, StandsFor, WorkedExamples}
use Rattle.pulses.proofs.Canon.{sorted_sort}
use Rattle.pulses.proofs.Checked.{on_from_test, lawful_from_test}
use Rattle.pulses.proofs.Indices.{house_follows, every_number_reads}
use Rattle.pulses.proofs.CallLaws.{in_use, writes, is_read_again}

all_defs : Unit {0}
unfolding hit up half insert sort one_house two_places two_rising two_house fuller others three_by three_house close_by close_house four_halves four_house five_by five_house six_halves six_house one_of pair_of two_of three_of close_of four_of five_of six_of four_by six_by six_uneven on_track one_signed checked read_index
all_defs = tt

-- an example holds once these tests compute
stands : (M : ℕ) (ps : List Pulse) (i : ℕ) → used (length ps) M ≡ true → on_track M ps ≡ true → one_signed ps ≡ true → sort ps ≡ ps → house (length ps) M ps ≡ i → StandsFor (length ps) M ps i
stands M ps i u o s r h =
    let n = length ps in
    let g : Group M n ps = record { size = refl; on = on_from_test M ps o; lawful = lawful_from_test ps s } in
    let x = house_follows n M ps (in_use n M u).fits g (subst Sorted r (sorted_sort ps)) in
    let w : write_index M ps ≡ Ok i = writes M n ps u g ∙ ap (λ z. Ok (house n M z)) r ∙ ap Ok h in
    record { by_the_rules = subst (λ z. Index Choice.house n M ps z) h x; written = w; read = is_read_again M ps i w ∙ ap Ok r }

pub worked_examples : WorkedExamples
unfolding all_defs
worked_examples =
    record {
      one_at_width_5 = stands 5 (minus 3 ∷ []) 35 refl refl refl refl refl;
      two_plus = stands 4 (plus 3 ∷ plus 7 ∷ []) 55 refl refl refl refl refl;
      plus_then_minus = stands 4 (plus 3 ∷ minus 7 ∷ []) 371 refl refl refl refl refl;
      minus_then_plus = stands 4 (minus 3 ∷ plus 7 ∷ []) 115 refl refl refl refl refl;
      two_on_one_place = stands 4 (minus 7 ∷ minus 7 ∷ []) 375 refl refl refl refl refl;
      three = stands 4 (plus 1 ∷ plus 2 ∷ minus 3 ∷ []) 4874 refl refl refl refl refl;
      both_signs = (every_number_reads 3 4 5421 (in_use 3 4 refl).fits (omega arith), refl);
      four = stands 4 (plus 1 ∷ minus 2 ∷ plus 9 ∷ minus 15 ∷ []) 43257 refl refl refl refl refl;
      four_of_ones = stands 4 (minus 7 ∷ minus 7 ∷ minus 7 ∷ minus 15 ∷ []) 65535 refl refl refl refl refl;
      five = stands 4 (plus 0 ∷ plus 1 ∷ plus 2 ∷ plus 3 ∷ plus 4 ∷ []) 66100 refl refl refl refl refl;
      six_halved = stands 4 (plus 0 ∷ plus 1 ∷ plus 2 ∷ minus 8 ∷ minus 9 ∷ minus 10 ∷ []) 3278481 refl refl refl refl refl;
      six_uneven = stands 4 (plus 0 ∷ plus 1 ∷ plus 2 ∷ plus 3 ∷ plus 4 ∷ plus 15 ∷ []) 1116615 refl refl refl refl refl;
    }
