use Rattle.rows.proofs.Overs.{Left}
use Rattle.rows.proofs.write.check_room.Given as goal

abbrev pub invariant-loop-piece : goal.invariant-loop-piece
invariant-loop-piece l = Left l.pieces l.piece-index l.left l.room
