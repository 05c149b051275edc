use Rattle.messages.proofs.Handing.{reads_messages, reads_by_indices}
use Rattle.messages.proofs.Refused.{track_refusals}
use Rattle.messages.proofs.reading.read_message.Goals as goal

pub returns-clause-reads_messages : goal.returns-clause-reads_messages
returns-clause-reads_messages g c = reads_messages

pub returns-clause-reads_by_indices : goal.returns-clause-reads_by_indices
returns-clause-reads_by_indices g c = reads_by_indices

pub returns-clause-track_refusals : goal.returns-clause-track_refusals
returns-clause-track_refusals g c = track_refusals
