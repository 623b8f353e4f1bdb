use Rattle.std.proofs.Common.{eqb, length, refl, ap, ◌∙◌, arith}
use Rattle.store.proofs.Rows.{same_disk, row_filled}
use Rattle.store.specs.Budget.{taken}
use Rattle.store.specs.Disk.{with_row}
use Rattle.journal.specs.Changes.{replay, live}
use Rattle.journal.specs.Entry.{change_of}
use Rattle.journal.specs.Disk.{changes, places}
use Rattle.journal.proofs.Journals.{replay-appended, of_key, take_left, count_put}
use Rattle.journal.proofs.disk.JournalStore.put.Goals as goal

pub invariant_of-self-2 : goal.invariant_of-self-2
invariant_of-self-2 c =
    let j = c.args.self.now in
    let left = take_left j.budget c.take.new.self c.lacks.result _ c.in_ok-take.ensures.answer c.in_ok-take.ensures.after in
    let n = count_put (places j) (changes j) (change_of c.in_ok-key.key c.args.row.now) c.lacks.result j.budget.free c.take.new.self.free c.lacks.ensures (row_filled c.args.row.now _ c.in_ok-check_row.ensures.answer) left in
    let e = ap (λ cs. length (live cs)) c.append.ensures.after in
    record { rows = omega (arith, n, e, j.rows); room = omega (arith, n, e, j.room, c.append.ensures.places) }

pub returns-clause-after : goal.returns-clause-after
returns-clause-after c =
    let j = c.args.self.now in
    let row = c.args.row.now in
    let key = c.in_ok-key.key in
    let same = c.in_ok-key.ensures.answer in
    let stood = c.lacks.ensures ∙ of_key (λ k n. eqb (length (replay (changes j) k n)) 0) key _ _ same in
    let rows = ap replay c.append.ensures.after ∙ replay-appended (places j) (changes j) (change_of key row) ∙ of_key (λ k n. with_row (replay (changes j)) k n row) key _ _ same in
    let budget = c.in_ok-take.ensures.after ∙ ap (taken j.budget) stood in
    same_disk _ _ (λ k n. ap (λ f. f k n) rows) (λ _. refl) (ap (λ b. b.free) budget) (ap (λ b. b.writes) budget)
