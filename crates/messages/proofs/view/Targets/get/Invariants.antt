use Rattle.messages.specs.View.{targets_of}
use Rattle.messages.proofs.Steps.{After}
use Rattle.messages.proofs.view.Targets.get.Given as goal

abbrev pub invariant-loop : goal.invariant-loop
invariant-loop l = After l.counter l.rest.map l.rest.tail.now (targets_of l.self)
