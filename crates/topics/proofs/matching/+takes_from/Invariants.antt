use Rattle.std.proofs.Common.{length}
use Rattle.topics.proofs.matching.+takes_from.Given as goal

abbrev pub decreases-takes_from : goal.decreases-takes_from
decreases-takes_from l = length l.filter.now
