use Rattle.std.proofs.Common.{arith}
use Rattle.modes.proofs.Listed.{few}
use Rattle.frames_tests.proofs.tables.range.Goals as goal

pub loop-slot-init : goal.loop-slot-init
loop-slot-init c = rw (c.into_iter-slot-iterator.ensures.into_iter_gives, c.slots-slot-items.ensures.all) (tt, tt, omega (arith, few c.args.mode))
