use Rattle.sessions.proofs.Steps.{row_read}
use Rattle.sessions.proofs.view.SessionRow.read.Goals as goal

pub returns-clause-answer : goal.returns-clause-answer
returns-clause-answer c = row_read _ _ _ _ _ c.then_some.ensures c.is_lawful.ensures.answer c.in_ok-client.ensures.answer c.in_ok-count.ensures.cases.0
