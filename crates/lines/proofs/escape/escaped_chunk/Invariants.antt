use Rattle.std.proofs.Common.{◌≡◌, ◌≤◌, ◌*◌, take}
use Rattle.std.specs.List.{flat_map}
use Rattle.lines.specs.Escape.{escaped_byte}
use Rattle.lines.proofs.escape.escaped_chunk.Given as goal

abbrev pub invariant-loop-byte : goal.invariant-loop-byte
invariant-loop-byte l = (l.len ≤ 4 * l.byte-index) × (take l.len l.text ≡ flat_map escaped_byte (take l.byte-index l.bytes))
