use Rattle.pulses.specs.Within.{Halved}
use Rattle.pulses.proofs.Within.{halved_at}
use Rattle.pulses.proofs.write.Group.halves.Goals as goal
use Rattle.pulses.proofs.write.Group.halves.Goals.{After-split_at}

halved : (c : After-split_at) → Halved c.args.self.width c.args.self.pulses.now c.split_at.result.0.now c.split_at.result.1.now
halved c = halved_at c.args.self.width c.lower.result c.args.self.pulses.now _ _ c.requires c.args.self.sorted c.lower.ensures.is c.split_at.ensures.front c.split_at.ensures.back

pub invariant_of-result-clause-sorted : goal.invariant_of-result-clause-sorted
invariant_of-result-clause-sorted c = (halved (goal.at.invariant_of-result-clause-sorted c).After-split_at).low_sorted

pub invariant_of-result-2-clause-sorted : goal.invariant_of-result-2-clause-sorted
invariant_of-result-2-clause-sorted c = (halved (goal.at.invariant_of-result-2-clause-sorted c).After-split_at).high_sorted

pub returns-clause-halved : goal.returns-clause-halved
returns-clause-halved c = halved (goal.at.returns-clause-halved c).After-split_at
