use Rattle.std.proofs.Common.{◌≤◌, IfOk, sym, subst}
use Rattle.journal.specs.Sound.{journal_sound}
use Rattle.journal.proofs.disk.JournalStore.load.Goals as goal

pub returns-clause-bound : goal.returns-clause-bound
returns-clause-bound c =
    let key = c.in_ok-key.key in
    subst (λ r. IfOk r (λ n. n ≤ 560)) (sym c.read.ensures.answer) ((journal_sound c.args.self.now).short key.kind key.number)
