use Rattle.std.proofs.Common.{ℕ, List, IfOk, Ok, Err, Result}
use Rattle.std.specs.declared.alloc.AllocError.{AllocError}
use Rattle.pile.specs.declared.Pile.{Pile}
use Rattle.pile.specs.declared.ops.Unstacked.{Unstacked}
use Rattle.pile.specs.Pile.{Stacks}
use Rattle.window.specs.declared.span.Spans.{Spans}
use Rattle.script.specs.declared.answer.Turn.{Turn}
use Rattle.script.specs.Answer.{WindowOn, WindowTold}
use Rattle.script.proofs.answer.window_turn.Goals as goal

-- what stacking a window answered is told
told_on : (s : Spans) (p : Pile) (line : List ℕ) (stacked : Result Pile Unstacked) (r : Result Turn AllocError) → Stacks p s stacked → IfOk r (λ t. WindowTold stacked line t) → IfOk r (λ t. WindowOn s p line t)
told_on s p line stacked (Ok t) st told = record { result = stacked; stacks = st; told = told }
told_on s p line stacked (Err e) st told = tt

pub returns-in-Ok : goal.returns-in-Ok
returns-in-Ok c = record {
  answer = told_on c.args.spans c.args.pile c.args.line.now (Ok c.in-Ok.pile) c.new.result c.in-Ok.ensures.answer c.new.ensures.answer;
}

pub returns-in-Err : goal.returns-in-Err
returns-in-Err c = record {
  answer = told_on c.args.spans c.args.pile c.args.line.now (Err c.in-Err.refused) c.refused_turn.result c.in-Err.ensures.answer c.refused_turn.ensures.answer;
}
