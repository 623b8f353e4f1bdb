use Rattle.std.proofs.Common.{◌+◌}
use Rattle.std.proofs.lemmas.Result.{err_from_is_err_and}
use Rattle.packets.specs.Fields.{only_identifier}
use Rattle.packets.proofs.Steps.{ended_ok, ended_err}
use Rattle.packets.proofs.cursor.Cursor.only_identifier.Goals as goal

pub returns-in_err-id : goal.returns-in_err-id
unfolding only_identifier
returns-in_err-id c =
    let p = err_from_is_err_and c.from_residual.result c.from_residual.ensures.1 in
    record { answer = rw (p.1, p.2, c.in_err-id.ensures.answer) }

pub returns-in_err-end : goal.returns-in_err-end
unfolding only_identifier
returns-in_err-end c =
    let p = err_from_is_err_and c.from_residual-in_err-end.result c.from_residual-in_err-end.ensures.1 in
    record { answer = rw (p.1, p.2, c.in_ok-id.ensures.answer) (ended_err c.identifier.new.self.bytes.now (c.args.self.now.at + 2) _ c.in_ok-id.id c.in_ok-id.ensures.place c.in_err-end.ensures.answer) }

pub returns : goal.returns
unfolding only_identifier
returns c = record { answer = rw c.in_ok-id.ensures.answer (ended_ok c.identifier.new.self.bytes.now (c.args.self.now.at + 2) _ c.in_ok-id.id c.in_ok-id.ensures.place c.in_ok-end.ensures.answer) }
