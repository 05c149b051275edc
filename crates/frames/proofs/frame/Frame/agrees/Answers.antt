use Rattle.frames.proofs.Agreeing.{values_tell_records}
use Rattle.frames.proofs.frame.Frame.agrees.Goals as goal

pub returns-clause-values : goal.returns-clause-values
returns-clause-values c = values_tell_records
