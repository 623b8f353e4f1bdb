use Rattle.std.proofs.Common.{◌≡◌, ◌++◌, length, vec_items}
use Rattle.std.specs.List.{flat_map}
use Rattle.lines.specs.Escape.{escaped_byte, Bytes}
use Rattle.lines.proofs.escape.unescape_each.Given as goal

abbrev pub invariant-loop-rest : goal.invariant-loop-rest
invariant-loop-rest l = (flat_map escaped_byte (vec_items l.bytes) ++ l.rest ≡ l.text) × Bytes (vec_items l.bytes)

abbrev pub decreases-loop-rest : goal.decreases-loop-rest
decreases-loop-rest l = length l.rest
