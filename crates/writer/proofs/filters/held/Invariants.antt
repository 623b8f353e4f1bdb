use Rattle.std.proofs.Common.{List}
use Rattle.packets.specs.Filters.{Entry}
use Rattle.writer.specs.Filters.{Follows}
use Rattle.writer.proofs.filters.held.Given as goal

abbrev pub invariant-loop-rest : goal.invariant-loop-rest
invariant-loop-rest l = (es : List Entry) × Follows l.filters es l.left

abbrev pub decreases-loop-rest : goal.decreases-loop-rest
decreases-loop-rest l = l.left.count
