-- Twice the sum of pulses and width falls at each call, with 1 more in the general call.
use Rattle.std.proofs.Common.{◌+◌, ◌-◌, ◌*◌, length}
use Rattle.pulses.proofs.write.Group.+rules.Given as goal

abbrev pub decreases-index : goal.decreases-index
decreases-index l = 2 * (length l.self.pulses.now + l.self.width) + 1

abbrev pub decreases-paired : goal.decreases-paired
decreases-paired l = 2 * (length l.self.pulses.now + l.self.width) - 1

abbrev pub decreases-three : goal.decreases-three
decreases-three l = 2 * (3 + l.self.width)

abbrev pub decreases-close : goal.decreases-close
decreases-close l = 2 * (4 + l.self.width)

abbrev pub decreases-four : goal.decreases-four
decreases-four l = 2 * (4 + l.self.width)

abbrev pub decreases-five : goal.decreases-five
decreases-five l = 2 * (5 + l.self.width)

abbrev pub decreases-six : goal.decreases-six
decreases-six l = 2 * (6 + l.self.width)
