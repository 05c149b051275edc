use Rattle.std.proofs.Common.{arith}
use Rattle.pulses.proofs.WriteSteps.{one_written}
use Rattle.pulses.proofs.write.Group.one.Goals as goal

pub returns-clause-value : goal.returns-clause-value
returns-clause-value c = let e = one_written c.args.self.width c.args.self.pulses.now (omega arith) in cc
