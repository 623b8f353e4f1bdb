use Rattle.std.proofs.Common.{◌≡◌, ◌-◌}
use Rattle.messages.specs.Target.{targets_in}
use Rattle.messages.specs.View.{rest_of}
use Rattle.messages.proofs.view.Targets.behind.Given as goal

abbrev pub invariant-loop : goal.invariant-loop
invariant-loop l = rest_of (targets_in (32 - l.counter) l.rest.map l.rest.tail.now) ≡ rest_of (targets_in 32 l.self.map l.self.tail.now)
