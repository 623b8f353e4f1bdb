use Rattle.std.proofs.Common.{◌∷◌}
use Rattle.writer.proofs.Fronts.{Put}
use Rattle.writer.proofs.out.Image.put.Given as goal

abbrev pub invariant-loop-piece : goal.invariant-loop-piece
invariant-loop-piece l = Put (l.self.first ∷ l.length) l.self.body.now l.piece-index l.fn.out l.out l.end
