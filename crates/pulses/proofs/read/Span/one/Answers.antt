use Rattle.std.proofs.Common.{◌≡◌, ◌-◌, ◌∙◌, arith}
use Rattle.pulses.specs.Pulses.{up}
use Rattle.pulses.specs.Reading.{one_of}
use Rattle.pulses.proofs.ReadSteps.{set_one}
use Rattle.pulses.proofs.read.Span.one.Goals as goal

pub returns : goal.returns
unfolding up one_of
returns c =
    let m : c.args.index.count - 1 ≡ c.args.self.width = omega arith in
    set_one c.args.out.now _ (omega arith) ∙ rw (c.pulse.ensures, c.split.ensures.low, c.sign.ensures, c.split.ensures.high, m)
