use Rattle.std.proofs.Common.{◌≡◌, true, take}
use Rattle.topics.specs.Names.{plain}
use Rattle.topics.proofs.names.first_wildcard.Given as goal

abbrev pub invariant-loop-i : goal.invariant-loop-i
invariant-loop-i l = plain (take l.i l.bytes) ≡ true
