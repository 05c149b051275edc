use Rattle.pulses.proofs.Worked.{worked_examples}
use Rattle.pulses.proofs.examples.worked_examples.Goals as goal

pub returns-clause-hold : goal.returns-clause-hold
returns-clause-hold c = worked_examples
