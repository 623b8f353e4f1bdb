use Rattle.std.proofs.Common.{arith}
use Rattle.std.proofs.lemmas.Bool.{le-leb, lt-leb}
use Rattle.std.proofs.lemmas.Result.{err_from_is_err_and}
use Rattle.packets.specs.Reads.{connack_in, return_code_in}
use Rattle.packets.proofs.Steps.{ended_ok, ended_err}
use Rattle.packets.proofs.connect.read_connack.Goals as goal

pub returns-in_err-present : goal.returns-in_err-present
unfolding connack_in
returns-in_err-present c =
    let p = err_from_is_err_and c.from_residual.result c.from_residual.ensures.1 in
    let e = c.in_err-present.ensures.answer in
    record { answer = rw (p.1, p.2, e.0, e.1) }

pub returns-then-present-gt1 : goal.returns-then-present-gt1
unfolding connack_in
returns-then-present-gt1 c = record { answer = rw (c.in_ok-present.ensures.answer, lt-leb _ 1 c.if-present-gt1.true, c.bad.ensures.answer) }

pub returns-in_err-code : goal.returns-in_err-code
unfolding connack_in return_code_in
returns-in_err-code c =
    let p = err_from_is_err_and c.from_residual-in_err-code.result c.from_residual-in_err-code.ensures.1 in
    let e = c.in_err-code.ensures.answer in
    record { answer = rw (p.1, p.2, c.in_ok-present.ensures.answer, le-leb _ 1 c.if-present-gt1.false, e.0, e.1, c.in_ok-present.ensures.place) }

pub returns-then-code-gt-MAX_RETURN_CODE : goal.returns-then-code-gt-MAX_RETURN_CODE
unfolding connack_in return_code_in
returns-then-code-gt-MAX_RETURN_CODE c =
    record {
      answer = rw (
        c.in_ok-present.ensures.answer,
        le-leb _ 1 c.if-present-gt1.false,
        c.in_ok-code.ensures.answer,
        lt-leb _ 5 c.if-code-gt-MAX_RETURN_CODE.true,
        c.bad-then-code-gt-MAX_RETURN_CODE.ensures.answer,
        c.in_ok-present.ensures.place,
      );
    }

pub returns-in_err-end : goal.returns-in_err-end
unfolding connack_in return_code_in
returns-in_err-end c =
    let p = err_from_is_err_and c.from_residual-in_err-end.result c.from_residual-in_err-end.ensures.1 in
    record {
      answer = rw (p.1, p.2, c.in_ok-present.ensures.answer, le-leb _ 1 c.if-present-gt1.false, c.in_ok-code.ensures.answer, le-leb _ 5 c.if-code-gt-MAX_RETURN_CODE.false)
          (ended_err c.byte-2.new.self.bytes.now _ _ _ (omega (arith, c.in_ok-present.ensures.place, c.in_ok-code.ensures.place)) c.in_err-end.ensures.answer);
    }

pub returns : goal.returns
unfolding connack_in return_code_in
returns c =
    record {
      answer = rw (c.in_ok-present.ensures.answer, le-leb _ 1 c.if-present-gt1.false, c.in_ok-code.ensures.answer, le-leb _ 5 c.if-code-gt-MAX_RETURN_CODE.false)
          (ended_ok c.byte-2.new.self.bytes.now _ _ _ (omega (arith, c.in_ok-present.ensures.place, c.in_ok-code.ensures.place)) c.in_ok-end.ensures.answer);
    }
