use Rattle.std.proofs.lemmas.Result.{err_from_is_err_and}
use Rattle.packets.specs.Fields.{text_in}
use Rattle.packets.specs.Reads.{client_in}
use Rattle.packets.proofs.Steps.{ended_ok, ended_err}
use Rattle.packets.proofs.connect.read_client.Goals as goal

pub returns-in_err-client : goal.returns-in_err-client
unfolding client_in text_in
returns-in_err-client c =
    let p = err_from_is_err_and c.from_residual.result c.from_residual.ensures.1 in
    let e = c.in_err-client.ensures.answer in
    record { answer = rw (p.1, p.2, e.0, e.1) }

pub returns-then-not-is_text : goal.returns-then-not-is_text
unfolding client_in text_in
returns-then-not-is_text c = record { answer = rw (c.in_ok-client.ensures.answer, ← c.if-not-is_text.ensures.answer, c.bad.ensures.answer) }

pub returns-in_err-end : goal.returns-in_err-end
unfolding client_in text_in
returns-in_err-end c =
    let p = err_from_is_err_and c.from_residual-in_err-end.result c.from_residual-in_err-end.ensures.1 in
    record {
      answer = rw (p.1, p.2, c.in_ok-client.ensures.answer, ← c.if-not-is_text.ensures.answer)
          (ended_err c.text.new.self.bytes.now _ _ _ c.in_ok-client.ensures.place c.in_err-end.ensures.answer);
    }

pub returns : goal.returns
unfolding client_in text_in
returns c =
    record {
      answer = rw (c.in_ok-client.ensures.answer, ← c.if-not-is_text.ensures.answer)
          (ended_ok c.text.new.self.bytes.now _ _ _ c.in_ok-client.ensures.place c.in_ok-end.ensures.answer);
    }
