use Rattle.frame.proofs.Apart.{parts_law}
use Rattle.frame.proofs.parts.parts_law.Goals as goal

pub returns : goal.returns
returns c = record { law = parts_law }
