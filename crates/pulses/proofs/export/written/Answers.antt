use Rattle.std.proofs.Common.{Err, sym, ap, ◌∙◌, arith}
use Rattle.pulses.proofs.Border.{many_unused}
use Rattle.pulses.proofs.export.written.Goals as goal

pub returns-then-octets-gt6 : goal.returns-then-octets-gt6
returns-then-octets-gt6 c = ap Err c.into.ensures ∙ sym (many_unused c.args.width c.args.octets.now (omega arith))
