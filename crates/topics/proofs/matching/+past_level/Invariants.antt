use Rattle.std.proofs.Common.{length}
use Rattle.topics.proofs.matching.+past_level.Given as goal

abbrev pub decreases-past_level : goal.decreases-past_level
decreases-past_level l = length l.bytes.now
