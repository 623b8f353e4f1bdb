use Rattle.std.proofs.lemmas.Result.{err_from_is_err_and}
use Rattle.packets.specs.Reads.{suback_in}
use Rattle.packets.proofs.subscribe.read_suback.Goals as goal

pub returns-in_err-id : goal.returns-in_err-id
unfolding suback_in
returns-in_err-id c =
    let p = err_from_is_err_and c.from_residual.result c.from_residual.ensures.1 in
    record { answer = rw (p.1, p.2, c.in_err-id.ensures.answer) }

pub returns-in_err-judge_codes : goal.returns-in_err-judge_codes
unfolding suback_in
returns-in_err-judge_codes c =
    let p = err_from_is_err_and c.from_residual-in_err-judge_codes.result c.from_residual-in_err-judge_codes.ensures.1 in
    record { answer = rw (p.1, p.2, c.in_ok-id.ensures.answer, ← c.in_ok-id.ensures.place, ← c.in_err-judge_codes.ensures.answer) }

pub returns : goal.returns
unfolding suback_in
returns c = record { answer = rw (c.in_ok-id.ensures.answer, ← c.in_ok-id.ensures.place, ← c.in_ok-judge_codes.ensures.answer) }
