use Rattle.sessions.proofs.Filters.{session_law}
use Rattle.sessions.proofs.law.session_law.Goals as goal

pub returns : goal.returns
returns c = record { law = session_law }
