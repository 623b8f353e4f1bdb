use Rattle.std.proofs.Common.{◌≡◌, take, drop}
use Rattle.ring.specs.Run.{Runs}
use Rattle.ring.proofs.Ring.run.Given as goal

abbrev pub invariant-loop-i : goal.invariant-loop-i
invariant-loop-i g l =
    Runs l.initial.self l.initial.memory (take l.i l.steps) (take l.i l.answers) l.self l.memory
    × (drop l.i l.answers ≡ drop l.i l.initial.answers)
