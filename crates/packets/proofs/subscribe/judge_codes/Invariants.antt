use Rattle.std.proofs.Common.{◌≤◌}
use Rattle.packets.proofs.Passing.{Passing}
use Rattle.packets.proofs.subscribe.judge_codes.Given as goal

abbrev pub invariant-loop-i : goal.invariant-loop-i
invariant-loop-i l = record { few : l.i ≤ 8; passing : Passing l.cursor.bytes.now l.cursor.at l.i }
