use Rattle.table.proofs.Among.{held-set}
use Rattle.table.proofs.rows.Rows.clear.Goals as goal

pub returns : goal.returns
returns c = record {
  after = held-set c.args.self.now.places c.slot.result _ c.clear.new.self _ c.slot.ensures.answer c.clear.ensures.after;
}
