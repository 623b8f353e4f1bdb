use Rattle.std.proofs.Common.{arith}
use Rattle.journal.specs.Disk.{changes}
use Rattle.journal.proofs.Standing.{live-standing}
use Rattle.journal.specs.Sound.{all_inside}
use Rattle.journal.proofs.Journal.places.Goals as goal

pub returns-clause-rows : goal.returns-clause-rows
returns-clause-rows c =
    let j = c.args.self.now in
    omega (arith, c.places.ensures, j.room, live-standing (changes j) (all_inside j))
