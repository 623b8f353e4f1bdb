use Rattle.std.proofs.Common.{rules, take, get_or, sym, arith}
use Rattle.std.proofs.lemmas.Grind.{common_steps}
use Rattle.std.specs.Str.{IsUtf8}
use Rattle.lines.specs.Escape.{escaped_byte}
use Rattle.lines.proofs.Escapes.{plain_is, other_is, escaped_ascii}
use Rattle.lines.proofs.Hexes.{each_more, chunk_text}
use Rattle.lines.proofs.escape.escaped_chunk.Goals as goal
use Rattle.lines.proofs.escape.escaped_chunk.Goals.{then-is_plain, else-is_plain}

pub unwrap-requires : goal.unwrap-requires
unwrap-requires c =
    let text : IsUtf8 (take c.loop-byte.len c.loop-byte.text) =
    chunk_text escaped_byte escaped_ascii _ c.args.bytes.now _ _ c.loop-byte.invariant.1 c.loop-byte-test.false (λ k. omega (arith, c.type_inv.bytes k)) in
    search rules

pub loop-byte-preserved : goal.loop-byte-preserved
loop-byte-preserved c =
    let byte = get_or c.args.bytes.now c.loop-byte.byte-index 0 in
    let more = each_more escaped_byte c.args.bytes.now c.loop-byte.byte-index c.loop-byte-test.true in
    elim c.if-is_plain.branch [
      | then-is_plain w ↦ (omega arith, grind (arith, common_steps, more, plain_is byte (sym w.if-is_plain.ensures.answer)))
      | else-is_plain w ↦ (omega arith, grind (arith, common_steps, more, other_is byte (sym w.if-is_plain.ensures.answer)))
    ]
