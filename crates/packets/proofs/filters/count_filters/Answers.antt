use Rattle.std.proofs.Common.{arith}
use Rattle.std.proofs.lemmas.Result.{err_from_is_err_and}
use Rattle.packets.proofs.Counting.{counting_done, counting_end, counting_stop, counting_more}
use Rattle.packets.proofs.filters.count_filters.Goals as goal

pub returns-then-is_empty : goal.returns-then-is_empty
returns-then-is_empty c = record { answer = counting_done _ _ _ _ _ _ c.loop-count.invariant c.if-is_empty.ensures }

pub returns-in_err-read_filter : goal.returns-in_err-read_filter
returns-in_err-read_filter c =
    let p = err_from_is_err_and c.from_residual.result c.from_residual.ensures.1 in
    record { answer = rw (p.1, p.2) (counting_stop _ _ _ _ _ _ c.loop-count.invariant (omega arith) c.if-is_empty.ensures _ c.in_err-read_filter.ensures.answer) }

pub loop-count-preserved : goal.loop-count-preserved
loop-count-preserved c = counting_more _ _ _ _ _ _ c.loop-count.invariant (omega arith) c.if-is_empty.ensures _ c.in_ok-read_filter.ensures.answer

pub returns : goal.returns
returns c = record { answer = counting_end _ _ _ _ _ _ c.loop-count.invariant _ (omega arith) c.in_ok-end.ensures.answer }
