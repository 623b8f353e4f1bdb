use Rattle.std.proofs.Common.{◌≡◌, None, arith, rules}
use Rattle.messages.specs.Target.{targets_in}
use Rattle.messages.specs.View.{rest_of}
use Rattle.messages.proofs.Steps.{behind_bad, behind_all}
use Rattle.messages.proofs.view.Targets.behind.Goals as goal

pub returns-in_err-rest : goal.returns-in_err-rest
returns-in_err-rest c =
    let h : None ≡ rest_of (targets_in 32 c.args.self.now.map c.args.self.now.tail.now) = behind_bad c.loop.counter _ _ _ (omega arith) c.in_err-rest.ensures.read c.loop.invariant in
    search rules

pub returns : goal.returns
returns c = record { answer = behind_all c.loop.counter c.loop.rest.map c.loop.rest.tail.now _ (omega arith) c.loop.invariant }
