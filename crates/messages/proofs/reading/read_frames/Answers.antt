use Rattle.messages.proofs.Handing.{hands_out_messages, hands_out_by_indices}
use Rattle.messages.proofs.reading.read_frames.Goals as goal

pub returns-clause-hands_out_messages : goal.returns-clause-hands_out_messages
returns-clause-hands_out_messages g c = hands_out_messages

pub returns-clause-hands_out_by_indices : goal.returns-clause-hands_out_by_indices
returns-clause-hands_out_by_indices g c = hands_out_by_indices
