use Rattle.std.proofs.Common.{◌≡◌, ◌+◌, ◌-◌, ◌*◌, length, take, refl, arith}
use Rattle.std.proofs.lemmas.List.{take_all, length-take}
use Rattle.pulses.proofs.WriteSteps.{three_written, close_written, five_written, four_written_0, four_written_4, four_written, four_count, six_written_0, six_written, six_count, six_written_3}
use Rattle.pulses.proofs.write.Group.+rules.Goals as goal

pub paired-returns-clause-three : goal.paired-returns-clause-three
paired-returns-clause-three t c n =
    let M = c.args.self.width in
    let rest = take (length c.args.self.pulses.now - 2) c.choose-choice.result.rest in
    let l : length rest ≡ 1 = omega (arith, length-take (length c.args.self.pulses.now - 2) c.choose-choice.result.rest) in
    let e = three_written M c.choose-choice.result.half.value c.args.self.pulses.now c.choose-choice.result.taken.pulses.now rest (omega arith) c.choose-choice.ensures.chosen c.choose-choice.ensures.size l in
    let h : c.index.result.count ≡ 2 * c.args.self.width - 1 = omega (arith, rw c.choose-choice.ensures.size at c.index.ensures.count) in
    let g : c.above-pair.result.count ≡ 2 * c.args.self.width = omega arith in
    cc

pub paired-returns-clause-close : goal.paired-returns-clause-close
paired-returns-clause-close t c n =
    let M = c.args.self.width in
    let rest = take (length c.args.self.pulses.now - 2) c.choose-choice.result.rest in
    let l : length rest ≡ 2 = omega (arith, length-take (length c.args.self.pulses.now - 2) c.choose-choice.result.rest) in
    let e = close_written M c.choose-choice.result.half.value c.args.self.pulses.now c.choose-choice.result.taken.pulses.now rest (omega arith) c.choose-choice.ensures.chosen c.choose-choice.ensures.size l in
    let h : c.index.result.count ≡ 2 * c.args.self.width - 1 = omega (arith, rw c.choose-choice.ensures.size at c.index.ensures.count) in
    let g : c.above-pair.result.count ≡ 2 * c.args.self.width = omega arith in
    cc

pub five-returns-clause-value : goal.five-returns-clause-value
five-returns-clause-value t c =
    let M = c.args.self.width in
    let rest = c.choose-choice.result.rest in
    let l : length rest ≡ 2 = omega arith in
    let w : take (length c.args.self.pulses.now - 3) rest ≡ rest = take_all (length c.args.self.pulses.now - 3) rest (omega arith) in
    let e = five_written M c.choose-choice.result.half.value c.args.self.pulses.now c.choose-choice.result.taken.pulses.now rest (omega arith) (rw w at c.choose-choice.ensures.chosen) c.choose-choice.ensures.size l in
    let h : c.index-2.result.count ≡ 2 * c.args.self.width + 1 = omega (arith, rw l at c.index-2.ensures.count) in
    let g : c.above-body.result.count ≡ 5 * c.args.self.width - 1 = omega (arith, rw c.choose-choice.ensures.size at c.index.ensures.count) in
    cc

pub four-returns-in-0-clause-value : goal.four-returns-in-0-clause-value
four-returns-in-0-clause-value t c =
    let e = four_written_0 c.args.self.width c.args.self.pulses.now _ _ (omega arith) c.halves.ensures.halved c.in-0.is in
    let g : c.close.result.count + 1 ≡ 4 * c.args.self.width - 2 = omega arith in
    let h : c.close.result.count ≡ 4 * c.args.self.width - 3 = omega arith in
    cc

pub four-returns-in-4-clause-value : goal.four-returns-in-4-clause-value
four-returns-in-4-clause-value t c =
    let e = four_written_4 c.args.self.width c.args.self.pulses.now _ _ (omega arith) c.halves.ensures.halved c.in-4.is in
    let g : c.close-in-4.result.count + 1 ≡ 4 * c.args.self.width - 2 = omega arith in
    let h : c.close-in-4.result.count ≡ 4 * c.args.self.width - 3 = omega arith in
    cc

pub four-returns-in_default-clause-value : goal.four-returns-in_default-clause-value
four-returns-in_default-clause-value t c =
    let M = c.args.self.width in
    let k = length c.halves.result.0.pulses.now in
    let n = length c.halves.result.1.pulses.now in
    let e = four_written M k n c.args.self.pulses.now _ _ (omega arith) c.halves.ensures.halved refl (omega arith) (omega arith) (omega arith) in
    let s = four_count M k n (omega arith) (omega arith) (omega arith) (omega arith) in
    let g : c.above.result.count ≡ 4 * M - 2 = omega (arith, s, rw c.halves.ensures.low_width at c.index.ensures.count, rw c.halves.ensures.high_width at c.index-in_default.ensures.count) in
    cc

pub four-returns-in_default-clause-count : goal.four-returns-in_default-clause-count
four-returns-in_default-clause-count t c =
    let s = four_count c.args.self.width (length c.halves.result.0.pulses.now) (length c.halves.result.1.pulses.now) (omega arith) (omega arith) (omega arith) (omega arith) in
    omega (arith, s, rw c.halves.ensures.low_width at c.index.ensures.count, rw c.halves.ensures.high_width at c.index-in_default.ensures.count)

pub six-returns-in-0-clause-value : goal.six-returns-in-0-clause-value
six-returns-in-0-clause-value t c =
    let M = c.args.self.width in
    let s : length c.split_at.result.1.pulses.now ≡ 1 = omega arith in
    let e = six_written_0 M c.fuller.result.0.value c.args.self.pulses.now _ _ c.split_at.result.0.pulses.now c.split_at.result.1.pulses.now (omega arith) c.fuller.ensures.fuller c.in-0.is c.split_at.ensures.front c.split_at.ensures.back c.split_at.ensures.front_len s in
    let h : c.index-in-0.result.count ≡ M = omega (arith, rw s at c.index-in-0.ensures.count) in
    let g : c.above.result.count ≡ 6 * M - 5 = omega (arith, rw c.split_at.ensures.front_len at c.index.ensures.count) in
    let i : c.above.result.count + 1 ≡ 6 * M - 4 = omega arith in
    cc

pub six-returns-in-3-clause-value : goal.six-returns-in-3-clause-value
six-returns-in-3-clause-value t c =
    let M = c.args.self.width in
    let k : length c.fuller.result.1.pulses.now ≡ 3 = omega arith in
    let e = six_written_3 M c.fuller.result.0.value c.args.self.pulses.now _ _ (omega arith) c.fuller.ensures.fuller k c.in-3.is in
    let h : c.index-in-3-2.result.count ≡ 3 * M - 2 = omega (arith, rw c.in-3.is at c.index-in-3-2.ensures.count) in
    let g : c.above-in-3.result.count ≡ 6 * M - 4 = omega (arith, rw k at c.index-in-3.ensures.count) in
    cc

pub six-returns-in_default-clause-value : goal.six-returns-in_default-clause-value
six-returns-in_default-clause-value t c =
    let M = c.args.self.width in
    let k = length c.fuller.result.1.pulses.now in
    let n = length c.fuller.result.2.pulses.now in
    let e = six_written M c.fuller.result.0.value k n c.args.self.pulses.now _ _ (omega arith) c.fuller.ensures.fuller refl (omega arith) (omega arith) (omega arith) in
    let s = six_count M n k (omega arith) (omega arith) (omega arith) (omega arith) in
    let g : c.above-in_default.result.count ≡ 6 * M - 5 = omega (arith, s, rw c.fuller.ensures.full_width at c.index-in_default.ensures.count, rw c.fuller.ensures.other_width at c.index-in_default-2.ensures.count) in
    let i : c.above-in_default.result.count + 1 ≡ 6 * M - 4 = omega arith in
    cc

pub six-returns-in_default-clause-count : goal.six-returns-in_default-clause-count
six-returns-in_default-clause-count t c =
    let s = six_count c.args.self.width (length c.fuller.result.2.pulses.now) (length c.fuller.result.1.pulses.now) (omega arith) (omega arith) (omega arith) (omega arith) in
    omega (arith, s, rw c.fuller.ensures.full_width at c.index-in_default.ensures.count, rw c.fuller.ensures.other_width at c.index-in_default-2.ensures.count)
