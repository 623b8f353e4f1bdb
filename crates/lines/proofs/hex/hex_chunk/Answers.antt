use Rattle.std.proofs.Common.{rules, take, arith}
use Rattle.std.specs.Str.{IsUtf8}
use Rattle.lines.specs.Hex.{byte_hex}
use Rattle.lines.proofs.Hexes.{chunk_text, hex_ascii}
use Rattle.lines.proofs.hex.hex_chunk.Goals as goal

pub unwrap-requires : goal.unwrap-requires
unwrap-requires c =
    let text : IsUtf8 (take c.loop-byte.len c.loop-byte.text) =
    chunk_text byte_hex hex_ascii _ c.args.bytes.now _ _ c.loop-byte.invariant.1 c.loop-byte-test.false (λ k. omega (arith, c.type_inv.bytes k)) in
    search rules
