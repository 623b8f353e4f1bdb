use Rattle.std.proofs.Common.{arith, ltb-false, ltb-true}
use Rattle.topics.proofs.Steps.{takes_short}
use Rattle.topics.proofs.matching.+takes_from.Goals as goal

pub returns-in-empty-default : goal.returns-in-empty-default
returns-in-empty-default t c =
    record { answer = takes_short c.args.start c.args.filter.now c.args.topic.now c.in-Plain.ensures.answer (omega (arith, ltb-true, ltb-false)) (omega (arith, ltb-true, ltb-false)) }
