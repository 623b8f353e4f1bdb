use Rattle.topics.proofs.Laws.{below_law}
use Rattle.topics.proofs.matching.below_law.Goals as goal

pub returns : goal.returns
returns c = record { law = below_law }
