use Rattle.std.proofs.Common.{◌≡◌, ◌+◌, false, eqb, [], length, sym, refl, ap, ◌∙◌, arith}
use Rattle.std.proofs.lemmas.Bool.{cond-false}
use Rattle.store.proofs.Rows.{same_disk}
use Rattle.store.specs.Disk.{absent, with_row}
use Rattle.journal.specs.Changes.{replay, live}
use Rattle.journal.specs.Entry.{change_of}
use Rattle.journal.specs.Disk.{changes, places, journal_disk}
use Rattle.journal.proofs.Journals.{replay-appended, of_key, count_drop}
use Rattle.journal.proofs.disk.JournalStore.drop_row.Goals as goal

pub invariant_of-self-2 : goal.invariant_of-self-2
invariant_of-self-2 c =
    let j = c.args.self.now in
    let n = count_drop (places j) (changes j) (change_of c.in_ok-key.key []) j.budget.free (sym c.lacks.ensures ∙ c.if-lacks.false) refl in
    let e = ap (λ cs. length (live cs)) c.append.ensures.after in
    let f = ap (λ b. b.free) c.in_ok-spend.ensures.after in
    record { rows = omega (arith, n, e, f, j.rows); room = omega (arith, n, e, f, j.room, c.append.ensures.places) }

pub returns-clause-after : goal.returns-clause-after
returns-clause-after c =
    let j = c.args.self.now in
    let key = c.in_ok-key.key in
    let same = c.in_ok-key.ensures.answer in
    let stood : absent (journal_disk j) c.args.kind c.args.number ≡ false = sym (c.lacks.ensures ∙ of_key (λ k n. eqb (length (replay (changes j) k n)) 0) key _ _ same) ∙ c.if-lacks.false in
    let rows = ap replay c.append.ensures.after ∙ replay-appended (places j) (changes j) (change_of key []) ∙ of_key (λ k n. with_row (replay (changes j)) k n []) key _ _ same in
    same_disk _ _ (λ k n. ap (λ f. f k n) rows) (λ _. refl) (ap (λ b. b.free + 1) c.in_ok-spend.ensures.after) (ap (λ b. b.writes) c.in_ok-spend.ensures.after)
    ∙ sym (cond-false _ _ _ stood)
