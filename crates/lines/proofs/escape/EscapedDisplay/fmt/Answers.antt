use Rattle.std.proofs.Common.{rules, ◌++◌}
use Rattle.std.proofs.Output.{has_written_append, has_written_of_eq}
use Rattle.std.specs.List.{flat_map}
use Rattle.lines.specs.Escape.{escaped_byte}
use Rattle.lines.proofs.Hexes.{chunk_more}
use Rattle.lines.proofs.escape.EscapedDisplay.fmt.Goals as goal

pub loop-chunk-preserved : goal.loop-chunk-preserved
loop-chunk-preserved g c =
    let steps = c.in-Some.ensures.steps in (
      search rules,
      tt,
      search rules,
      λ plain.
          let so_far = c.loop-chunk.invariant.3 plain in (
            so_far.0 ++ flat_map escaped_byte c.in-Some.chunk.now,
            has_written_append _ _ _ _ _ _ so_far.1 (has_written_of_eq _ _ _ _ _ c.escaped_chunk.ensures.answer (search rules)),
            chunk_more escaped_byte so_far.0 c.in-Some.chunk.now _ _ _ steps.1.0 so_far.2,
          ),
    )
