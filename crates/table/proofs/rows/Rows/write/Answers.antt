use Rattle.std.proofs.Common.{is_ok}
use Rattle.table.proofs.Among.{held-written}
use Rattle.table.proofs.rows.Rows.write.Goals as goal

pub returns-clause-after : goal.returns-clause-after
returns-clause-after c =
    held-written (is_ok c.write.result) c.args.self.now.places c.slot.result _ c.write.new.self c.args.row.now _ c.slot.ensures.answer c.index_mut.ensures.value c.write.ensures.after
