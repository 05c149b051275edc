-- Twice the sum of pulses and width, with 1 more in the general call, falls at each call. What rules share stands
-- between them and the general call: 1 below a rule, or 1 above the larger of its two calls.
use Rattle.std.proofs.Common.{◌+◌, ◌-◌, ◌*◌, length, max}
use Rattle.pulses.proofs.read.Span.+rules.Given as goal

abbrev pub decreases-read : goal.decreases-read
decreases-read l = 2 * (length l.out.now + l.self.width) + 1

abbrev pub decreases-both : goal.decreases-both
decreases-both l = 2 * max (l.k + l.self.width) (length l.out.now - l.k + l.other.width) + 2

abbrev pub decreases-paired : goal.decreases-paired
decreases-paired l = 2 * (length l.out.now + l.self.width) - 1

abbrev pub decreases-three : goal.decreases-three
decreases-three l = 2 * (3 + l.self.width)

abbrev pub decreases-close : goal.decreases-close
decreases-close l = 2 * (4 + l.self.width)

abbrev pub decreases-four : goal.decreases-four
decreases-four l = 2 * (4 + l.self.width)

abbrev pub decreases-five : goal.decreases-five
decreases-five l = 2 * (5 + l.self.width)

abbrev pub decreases-six : goal.decreases-six
decreases-six l = 2 * (6 + l.self.width)
