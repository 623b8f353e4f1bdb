use Rattle.packets.proofs.Counting.{Counting}
use Rattle.packets.proofs.filters.count_filters.Given as goal

abbrev pub invariant-loop-count : goal.invariant-loop-count
invariant-loop-count l = Counting l.with_qos l.fn.cursor.bytes.now l.fn.cursor.at l.count l.cursor.bytes.now l.cursor.at
