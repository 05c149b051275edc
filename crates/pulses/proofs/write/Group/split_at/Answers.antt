use Rattle.pulses.proofs.Within.{sorted_front, sorted_back}
use Rattle.pulses.proofs.write.Group.split_at.Goals as goal

pub invariant_of-result-clause-sorted : goal.invariant_of-result-clause-sorted
invariant_of-result-clause-sorted c = sorted_front c.args.self.width c.args.k c.args.self.pulses.now _ c.args.self.sorted c.split_at.ensures.front

pub invariant_of-result-2-clause-sorted : goal.invariant_of-result-2-clause-sorted
invariant_of-result-2-clause-sorted c = sorted_back c.args.self.width c.args.k c.args.self.pulses.now _ c.args.self.sorted c.split_at.ensures.back
