use Rattle.messages.proofs.Messages.{message_law}
use Rattle.messages.proofs.law.message_law.Goals as goal

pub returns : goal.returns
returns c = record { law = message_law }
