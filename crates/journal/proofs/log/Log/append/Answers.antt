use Rattle.std.proofs.Common.{arith}
use Rattle.journal.proofs.Logs.{appended_knows}
use Rattle.journal.proofs.log.Log.append.Goals as goal

pub invariant_of-self : goal.invariant_of-self
invariant_of-self c =
    let l = c.make_room.new.self in
    let m = c.make_room.ensures in
    let w = c.write.ensures in
    record {
      within = omega (arith, m.room, w.places);
      knows = appended_knows l.places.entries c.write.new.self.entries l.places.index _ c.args.key c.args.row.now l.taken m.room l.knows w.after w.found;
    }
