use Rattle.std.proofs.Common.{length}
use Rattle.topics.proofs.names.+has_lawful_levels.Given as goal

abbrev pub decreases-has_lawful_levels : goal.decreases-has_lawful_levels
decreases-has_lawful_levels l = length l.filter.now
