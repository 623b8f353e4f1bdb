use Rattle.std.proofs.Common.{◌≡◌, true, eqb, length, is_ok, sym, ap, ◌∙◌}
use Rattle.std.proofs.lemmas.Bool.{cond-true}
use Rattle.store.proofs.Rows.{row_fits}
use Rattle.store.specs.Disk.{stands}
use Rattle.table.specs.Rows.{contents}
use Rattle.table.specs.Disk.{table_disk}
use Rattle.table.proofs.Among.{length-contents}
use Rattle.table.proofs.Places.{put_disk}
use Rattle.table.proofs.disk.TableStore.put.Goals as goal

pub returns-clause-after : goal.returns-clause-after
returns-clause-after c =
    let t = c.args.self.now in
    let row = c.args.row.now in
    let same = c.in_ok-key.ensures.answer in
    let done : is_ok c.write.result ≡ true = ap is_ok (c.write.ensures.answer ∙ row_fits row _ c.in_ok-check_row.ensures.answer) in
    put_disk (contents t.rows) (contents c.write.new.self) t.budget c.take.new.self c.in_ok-key.key row c.is_empty.result (length-contents t.rows) (c.write.ensures.after ∙ cond-true _ _ _ done) (c.is_empty.ensures.answer ∙ ap (λ r. eqb (length r) 0) c.get.ensures.answer) c.in_ok-take.ensures.after
    ∙ (λ i. stands (table_disk t) (same.0 i) (same.1 i) row) ∙ sym (cond-true _ _ _ done)
