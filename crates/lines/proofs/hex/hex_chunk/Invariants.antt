use Rattle.std.proofs.Common.{◌≡◌, ◌*◌, take}
use Rattle.std.specs.List.{flat_map}
use Rattle.lines.specs.Hex.{byte_hex}
use Rattle.lines.proofs.hex.hex_chunk.Given as goal

abbrev pub invariant-loop-byte : goal.invariant-loop-byte
invariant-loop-byte l = (l.len ≡ 2 * l.byte-index) × (take l.len l.text ≡ flat_map byte_hex (take l.byte-index l.bytes))
