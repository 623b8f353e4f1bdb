use Rattle.lines.proofs.Hexes.{hex_law}
use Rattle.lines.proofs.hex.hex_law.Goals as goal

pub returns : goal.returns
returns c = record { law = hex_law }
