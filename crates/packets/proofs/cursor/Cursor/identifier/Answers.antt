use Rattle.std.proofs.lemmas.Bool.{ne_eqb}
use Rattle.std.proofs.lemmas.Result.{err_from_is_err_and}
use Rattle.packets.specs.Fields.{identifier_in}
use Rattle.packets.proofs.cursor.Cursor.identifier.Goals as goal

pub returns-in_err-id-clause-answer : goal.returns-in_err-id-clause-answer
unfolding identifier_in
returns-in_err-id-clause-answer c =
    let p = err_from_is_err_and c.from_residual.result c.from_residual.ensures.1 in
    let e = c.in_err-id.ensures.answer in
    rw (p.1, p.2, e.0, e.1)

pub returns-then-id-eq0-clause-answer : goal.returns-then-id-eq0-clause-answer
unfolding identifier_in
returns-then-id-eq0-clause-answer c = rw (c.in_ok-id.ensures.answer, c.if-id-eq0.true, c.bad.ensures.answer)

pub returns-clause-answer : goal.returns-clause-answer
unfolding identifier_in
returns-clause-answer c = rw (c.in_ok-id.ensures.answer, ne_eqb _ 0 c.if-id-eq0.false)
