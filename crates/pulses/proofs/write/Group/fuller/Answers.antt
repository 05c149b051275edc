use Rattle.pulses.proofs.WriteSteps.{fuller_low, fuller_high}
use Rattle.pulses.proofs.write.Group.fuller.Goals as goal

pub returns-then-low-lt3-clause-fuller : goal.returns-then-low-lt3-clause-fuller
returns-then-low-lt3-clause-fuller c = fuller_high c.args.self.width c.args.self.pulses.now _ _ c.halves.ensures.halved c.if-low-lt3.true

pub returns-else-low-lt3-clause-fuller : goal.returns-else-low-lt3-clause-fuller
returns-else-low-lt3-clause-fuller c = fuller_low c.args.self.width c.args.self.pulses.now _ _ c.halves.ensures.halved c.if-low-lt3.false
