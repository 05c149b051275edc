use Rattle.std.proofs.Common.{◌≡◌, ℕ, ◌-◌, ◌*◌, ◌<◌, length, take, refl, arith, rules}
use Rattle.std.proofs.lemmas.List.{length-take}
use Rattle.pulses.specs.Rules.{bits}
use Rattle.pulses.proofs.Cuts.{widen}
use Rattle.pulses.proofs.ReadSteps.{SixCut, groups, three_step, close_step, five_step, four_step_0, four_step, six_step_0, six_step_1, six_step_2, six_step_3}
use Rattle.pulses.proofs.read.Span.+rules.Goals as goal
use Rattle.pulses.proofs.read.Span.+rules.Goals.{six-After-split-2}

pub paired-read-requires : goal.paired-read-requires
paired-read-requires t c =
    let l : length (take 2 c.args.out.now) ≡ 2 = omega (arith, length-take 2 c.args.out.now) in
    let b : c.split-2.result.1.count ≡ bits (length (take 2 c.args.out.now)) c.half.result.width = rw l (omega arith) in
    search rules

pub paired-returns-clause-three : goal.paired-returns-clause-three
paired-returns-clause-three t c n =
    let g = groups 2 _ c.args.out.now c.read.new.out c.read-2.new.out c.half.result.from c.args.self.from c.half.result.width c.args.self.width c.split-2.result.1.value c.split.result.0.value (omega arith) refl c.read.ensures c.read.auto.out c.read-2.ensures in
    let e = three_step c.args.self.width c.args.self.from c.args.index.value (length c.args.out.now - 2) (omega arith) (omega arith) in
    let k : c.args.index.count - c.bits.result ≡ 2 * c.args.self.width = omega arith in
    let m : c.split.result.1.count - 1 ≡ 2 * c.args.self.width - 1 = omega arith in
    cc

pub paired-returns-clause-close : goal.paired-returns-clause-close
paired-returns-clause-close t c n =
    let g = groups 2 _ c.args.out.now c.read.new.out c.read-2.new.out c.half.result.from c.args.self.from c.half.result.width c.args.self.width c.split-2.result.1.value c.split.result.0.value (omega arith) refl c.read.ensures c.read.auto.out c.read-2.ensures in
    let e = close_step c.args.self.width c.args.self.from c.args.index.value (length c.args.out.now - 2) (omega arith) (omega arith) in
    let k : c.args.index.count - c.bits.result ≡ 2 * c.args.self.width = omega arith in
    let m : c.split.result.1.count - 1 ≡ 2 * c.args.self.width - 1 = omega arith in
    cc

pub five-returns : goal.five-returns
five-returns t c =
    let l = widen c.args.index.count (5 * c.args.self.width) c.requires.bits c.args.index.small in
    let e = five_step c.args.self.width c.args.self.from c.args.index.value (length c.args.out.now - 3) (omega arith) (omega arith) l in
    let k : c.args.index.count - 1 ≡ 5 * c.args.self.width - 1 = omega arith in
    cc

pub four-returns-in-0 : goal.four-returns-in-0
four-returns-in-0 t c =
    let k : c.args.index.count - 2 ≡ 4 * c.args.self.width - 2 = omega arith in
    let m : c.split.result.1.count - 1 ≡ 4 * c.args.self.width - 3 = omega arith in
    let e = four_step_0 c.args.self.width c.args.self.from c.args.index.value c.split.result.0.value c.split.result.1.value (omega arith) (rw k at c.split.ensures.high) (rw k at c.split.ensures.low) c.in-0.is in
    cc

pub four-returns-in_default : goal.four-returns-in_default
four-returns-in_default t c =
    let k : c.args.index.count - 2 ≡ 4 * c.args.self.width - 2 = omega arith in
    let l : c.split.result.0.value < 4 = widen c.split.result.0.count 2 c.split.ensures.high_count c.split.result.0.small in
    let e = four_step c.args.self.width c.args.self.from c.args.index.value c.split.result.0.value c.split.result.1.value (length c.args.out.now - c.split.result.0.value)
    (omega arith) (rw k at c.split.ensures.high) (rw k at c.split.ensures.low) (omega arith) l (omega arith) in
    cc

six_cut : (t : ℕ) (c : six-After-split-2 t) → SixCut c.args.self.width c.args.self.from c.args.index.value c.split.result.0.value c.split.result.1.value c.split-2.result.0.value c.split-2.result.1.value
six_cut t c =
    let k : c.args.index.count - 2 ≡ 6 * c.args.self.width - 4 = omega arith in
    let m : c.split.result.1.count - 1 ≡ 6 * c.args.self.width - 5 = omega arith in
    record { wide = omega arith; number = rw k at c.split.ensures.high; body = rw k at c.split.ensures.low; fuller = rw m at c.split-2.ensures.high; rest = rw m at c.split-2.ensures.low }

pub six-returns-in-0 : goal.six-returns-in-0
six-returns-in-0 t c =
    let s = six_cut t (goal.at.six-returns-in-0 t c).After-split-2 in
    let e = six_step_0 _ _ _ _ _ _ _ (length c.args.out.now - 5) s c.in-0.is (omega arith) in
    cc

pub six-returns-in-1 : goal.six-returns-in-1
six-returns-in-1 t c =
    let s = six_cut t (goal.at.six-returns-in-1 t c).After-split-2 in
    let e = six_step_1 _ _ _ _ _ _ _ (length c.args.out.now - 5) s c.in-1.is (omega arith) in
    cc

pub six-returns-in-2 : goal.six-returns-in-2
six-returns-in-2 t c =
    let s = six_cut t (goal.at.six-returns-in-2 t c).After-split-2 in
    let e = six_step_2 _ _ _ _ _ _ _ (length c.args.out.now - 4) s c.in-2.is (omega arith) in
    cc

pub six-returns-in_default : goal.six-returns-in_default
six-returns-in_default t c =
    let k : c.args.index.count - 2 ≡ 6 * c.args.self.width - 4 = omega arith in
    let e = six_step_3 c.args.self.width c.args.self.from c.args.index.value c.split.result.0.value c.split.result.1.value (length c.args.out.now - 3)
    (omega arith) (rw k at c.split.ensures.high) (rw k at c.split.ensures.low) (omega arith) (omega arith) in
    cc
