use Rattle.std.proofs.Common.{sym, arith}
use Rattle.carriers.proofs.Rows.{zero_above}
use Rattle.carriers.proofs.bit.Bit.at.Goals as goal

pub returns-else-place-lt32 : goal.returns-else-place-lt32
returns-else-place-lt32 c = sym (zero_above c.args.number 32 c.args.place (omega arith) (omega arith))
