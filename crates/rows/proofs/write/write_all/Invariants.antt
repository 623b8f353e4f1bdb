use Rattle.rows.proofs.Overs.{Sofar}
use Rattle.rows.proofs.write.write_all.Given as goal

abbrev pub invariant-loop-piece : goal.invariant-loop-piece
invariant-loop-piece l = Sofar l.pieces l.piece-index l.initial.out l.out l.end
