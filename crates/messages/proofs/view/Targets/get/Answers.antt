use Rattle.std.proofs.Common.{◌≡◌, None, get_or, sym, arith, rules}
use Rattle.messages.specs.View.{targets_of}
use Rattle.messages.proofs.Steps.{owed_past, after_bad, after_more, after_here}
use Rattle.messages.proofs.view.Targets.get.Goals as goal

pub returns-then-session-ge-SESSIONS : goal.returns-then-session-ge-SESSIONS
returns-then-session-ge-SESSIONS c = record { answer = sym (owed_past 32 c.args.self.now.map c.args.self.now.tail.now c.args.session (omega arith)) }

pub returns-in_err-rest : goal.returns-in_err-rest
returns-in_err-rest c =
    let h : None ≡ get_or (targets_of c.args.self.now) c.args.session None = after_bad c.loop.counter c.args.session _ _ _ (omega arith) (omega arith) c.in_err-rest.ensures.owed c.loop.invariant in
    search rules

pub loop-preserved : goal.loop-preserved
loop-preserved c = after_more c.loop.counter _ _ _ _ _ _ (omega arith) c.in_ok-rest.ensures.owed c.loop.invariant

pub returns-in_err-split_first : goal.returns-in_err-split_first
returns-in_err-split_first c =
    let h : None ≡ get_or (targets_of c.args.self.now) c.args.session None = after_bad c.loop.counter c.args.session _ _ _ (omega arith) (omega arith) c.in_err-split_first.ensures.owed c.loop.invariant in
    search rules

pub returns : goal.returns
returns c = record { answer = after_here c.loop.counter c.args.session _ _ _ _ _ _ (omega arith) c.in_ok-split_first.ensures.owed (omega arith) c.loop.invariant }
