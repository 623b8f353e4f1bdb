use Rattle.window.proofs.Moves.{put-after}
use Rattle.window.proofs.WindowStore.put.Goals as goal

pub returns-clause-after : goal.returns-clause-after
returns-clause-after g c =
    let w = c.args.self.now in
    let p = c.in_ok-at.ensures.answer in
    put-after (g.S.Store.disk w.below) w.spans c.args.kind c.args.number c.in_ok-at.at p.0 p.1 _ c.put.result c.args.row.now c.put.ensures.after
