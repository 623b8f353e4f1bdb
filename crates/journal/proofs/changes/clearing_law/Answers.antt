use Rattle.journal.proofs.Standing.{clearing}
use Rattle.journal.proofs.changes.clearing_law.Goals as goal

pub returns : goal.returns
returns c = clearing
