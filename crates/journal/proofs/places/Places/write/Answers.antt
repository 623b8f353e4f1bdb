use Rattle.std.proofs.Common.{ap}
use Rattle.journal.specs.Entry.{change_of}
use Rattle.journal.proofs.Written.{set-place, row_written}
use Rattle.journal.proofs.places.Places.write.Goals as goal

pub returns-clause-after : goal.returns-clause-after
returns-clause-after c =
    set-place c.args.self.now.entries c.args.at record { key = c.args.key; row = c.write.new.self } _
    (ap (change_of c.args.key) (row_written _ _ c.args.row.now _ c.write.ensures.answer c.requires.short c.write.ensures.after))
