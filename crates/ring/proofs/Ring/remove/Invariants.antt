use Rattle.std.proofs.Common.{◌%◌, not, length}
use Rattle.ring.specs.Ring.{round}
use Rattle.ring.proofs.Sift.{Sifted}
use Rattle.ring.proofs.Ring.remove.Given as goal

abbrev pub invariant-loop-i : goal.invariant-loop-i
invariant-loop-i g l =
    Sifted
    (λ x. not (g.P.Pick.picked l.pick x))
    (round (l.self.first % length l.initial.memory) l.initial.memory)
    (round (l.self.first % length l.initial.memory) l.memory)
    l.stay
    l.i
