use Rattle.journal.proofs.Logs.{found_tells, none_tells}
use Rattle.journal.proofs.log.Log.lacks.Goals as goal

pub returns : goal.returns
returns c =
    none_tells _ c.find.result _ c.is_none.result
    (found_tells c.args.self.now c.args.key c.find.result c.find.ensures)
    c.is_none.ensures
