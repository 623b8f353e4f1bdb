use Rattle.std.proofs.Common.{◌≡◌, length, vec_items}
use Rattle.lines.specs.Hex.{pairs_in}
use Rattle.lines.proofs.Hexes.{prepend}
use Rattle.lines.proofs.hex.read_pairs.Given as goal

abbrev pub invariant-loop-rest : goal.invariant-loop-rest
invariant-loop-rest l = prepend (vec_items l.bytes) (pairs_in l.rest) ≡ pairs_in l.digits

abbrev pub decreases-loop-rest : goal.decreases-loop-rest
decreases-loop-rest l = length l.rest
