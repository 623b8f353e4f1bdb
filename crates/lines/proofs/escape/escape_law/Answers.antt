use Rattle.lines.proofs.Escapes.{escape_law}
use Rattle.lines.proofs.escape.escape_law.Goals as goal

pub returns : goal.returns
returns c = record { law = escape_law }
