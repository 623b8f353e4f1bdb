use Rattle.std.proofs.Common.{refl, sym}
use Rattle.packets.specs.Filters.{entry_of}
use Rattle.writer.proofs.Firsts.{behind, first}
use Rattle.writer.proofs.filters.behind_first.Goals as goal

pub returns : goal.returns
returns c =
    let f = c.args.filters in
    let e = entry_of c.in_ok-first.first in
    record { answer = behind f e (first f e (sym c.in_ok-first.ensures.answer)) _ c.behind-rest.ensures.answer refl refl refl }
