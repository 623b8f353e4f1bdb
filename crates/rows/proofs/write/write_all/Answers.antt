use Rattle.std.proofs.Common.{refl}
use Rattle.rows.proofs.Overs.{over_part, sofar_more, fits_room}
use Rattle.rows.proofs.write.write_all.Goals as goal

pub loop-piece-preserved : goal.loop-piece-preserved
loop-piece-preserved c =
    sofar_more _ _ _ _ _ _ c.loop-piece-test.true (fits_room _ _ c.in_ok-check_room.ensures.answer) c.loop-piece.invariant
    (over_part _ _ _ _ c.copy_from_slice.ensures.after) refl
