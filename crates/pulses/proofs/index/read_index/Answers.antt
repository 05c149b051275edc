use Rattle.pulses.proofs.CallLaws.{every_number_has_one_set}
use Rattle.pulses.proofs.index.read_index.Goals as goal

pub returns-in_err-row-clause-every_number_has_one_set : goal.returns-in_err-row-clause-every_number_has_one_set
returns-in_err-row-clause-every_number_has_one_set c = every_number_has_one_set c.args.number c.args.width c.args.index

pub returns-then-out-number-clause-every_number_has_one_set : goal.returns-then-out-number-clause-every_number_has_one_set
returns-then-out-number-clause-every_number_has_one_set c = every_number_has_one_set c.args.number c.args.width c.args.index

pub returns-clause-every_number_has_one_set : goal.returns-clause-every_number_has_one_set
returns-clause-every_number_has_one_set c = every_number_has_one_set c.args.number c.args.width c.args.index
