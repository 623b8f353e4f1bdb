use Rattle.writer.proofs.Firsts.{follows_on}
use Rattle.writer.proofs.filters.held.Goals as goal

pub loop-rest-preserved : goal.loop-rest-preserved
loop-rest-preserved c = (_, follows_on _ _ _ _ _ c.loop-rest.invariant.1 c.in-Some.ensures.answer.1)
