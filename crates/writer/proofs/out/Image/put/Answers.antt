use Rattle.std.proofs.Common.{[], ◌∷◌, arith}
use Rattle.writer.proofs.Fronts.{put_room, put_none, put_more}
use Rattle.writer.proofs.out.Image.put.Goals as goal

pub loop-piece-init : goal.loop-piece-init
loop-piece-init c = put_none c.args.self.first c.args.length.now _ c.args.self.body.now c.args.out.now (omega (arith, c.requires.room)) c.copy_from_slice.ensures.after

pub overflow_add-end-in-loop-piece : goal.overflow_add-end-in-loop-piece
overflow_add-end-in-loop-piece c =
    let l = c.loop-piece in
    let room = put_room (c.args.self.first ∷ c.args.length.now) c.args.self.body.now l.piece-index (record { ref_ptr = (0, 0); now = [] }) c.args.out.now l.out l.end (omega (arith, c.requires.room)) c.loop-piece-test.true l.invariant in
    omega (arith, room.0)

pub slice_bounds-copy_from_slice-end-in-loop-piece : goal.slice_bounds-copy_from_slice-end-in-loop-piece
slice_bounds-copy_from_slice-end-in-loop-piece c =
    let l = c.loop-piece in
    let room = put_room (c.args.self.first ∷ c.args.length.now) c.args.self.body.now l.piece-index (record { ref_ptr = (0, 0); now = [] }) c.args.out.now l.out l.end (omega (arith, c.requires.room)) c.loop-piece-test.true l.invariant in
    omega (arith, room.0, room.1)

pub loop-piece-preserved : goal.loop-piece-preserved
loop-piece-preserved c = put_more (c.args.self.first ∷ c.args.length.now) c.args.self.body.now c.loop-piece.piece-index _ c.args.out.now c.loop-piece.out _ c.loop-piece.end c.loop-piece-test.true c.copy_from_slice-in-loop-piece.ensures.after c.loop-piece.invariant
