use Rattle.std.proofs.Common.{◌≡◌, ◌+◌, ◌-◌, ◌*◌, ◌/◌, ◌%◌, ◌^◌, cond, leb, ◌∙◌, arith}
use lib.Pow.{mod-mod-pow}
use Rattle.std.proofs.lemmas.Bool.{le-leb, lt-leb}
use Rattle.pulses.specs.Pulses.{up, opposite}
use Rattle.pulses.specs.Reading.{two_of, pair_of}
use Rattle.pulses.proofs.Cuts.{mid_is}
use Rattle.pulses.proofs.ReadSteps.{set_two}
use Rattle.pulses.proofs.read.Span.two.Goals as goal
use Rattle.pulses.proofs.read.Span.two.Goals.{then-a-b, else-a-b}

pub returns : goal.returns
unfolding up two_of pair_of
returns c =
    let M = c.args.self.width in
    let i = c.args.index.value in
    let a = c.split-2.result.0.value in
    let b = c.split-2.result.1.value in
    let s = c.sign-first.result in
    let n : c.args.index.count - 1 ≡ M + M = omega arith in
    let d : M + M ≡ 2 * M = omega arith in
    let m : c.split.result.1.count - M ≡ M = omega arith in
    let ea : a ≡ i / 2 ^ M % 2 ^ M = c.split-2.ensures.high ∙ rw (m, c.split.ensures.low, n, mid_is i M M) in
    let eb : b ≡ i % 2 ^ M = c.split-2.ensures.low ∙ rw (m, c.split.ensures.low, n, mod-mod-pow i M M) in
    let second : c.if-a-b.second ≡ cond (leb a b) s (opposite s) =
    elim c.if-a-b.branch [
      | then-a-b w ↦ let e = le-leb a b w.if-a-b.true in rw e w.second-is
      | else-a-b w ↦ let e = lt-leb a b w.if-a-b.false in rw e (w.second-is ∙ w.opposite-second.ensures)
    ] in
    set_two c.args.out.now _ _ (omega arith)
    ∙ rw (c.pulse.ensures, c.pulse-2.ensures, second, ea, eb, c.sign-first.ensures, c.split.ensures.high, n, d)
