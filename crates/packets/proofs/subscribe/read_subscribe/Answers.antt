use Rattle.std.proofs.lemmas.Result.{err_from_is_err_and}
use Rattle.packets.specs.Reads.{subscribe_in}
use Rattle.packets.proofs.subscribe.read_subscribe.Goals as goal

pub returns-in_err-id : goal.returns-in_err-id
unfolding subscribe_in
returns-in_err-id c =
    let p = err_from_is_err_and c.from_residual.result c.from_residual.ensures.1 in
    record { answer = rw (p.1, p.2, c.in_err-id.ensures.answer) }

pub returns-in_err-filters : goal.returns-in_err-filters
unfolding subscribe_in
returns-in_err-filters c =
    let p = err_from_is_err_and c.from_residual-in_err-filters.result c.from_residual-in_err-filters.ensures.1 in
    record { answer = rw (p.1, p.2, c.in_ok-id.ensures.answer, ← c.in_ok-id.ensures.place, ← c.in_err-filters.ensures.answer) }

pub returns : goal.returns
unfolding subscribe_in
returns c =
    record { answer = rw (c.in_ok-id.ensures.answer, ← c.in_ok-id.ensures.place, ← c.in_ok-filters.ensures.answer, c.with_filters.ensures.answer) }
