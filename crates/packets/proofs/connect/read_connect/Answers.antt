use Rattle.std.proofs.lemmas.Bool.{eq-eqb, ne_eqb}
use Rattle.std.proofs.lemmas.Result.{err_from_is_err_and}
use Rattle.packets.specs.Reads.{connect_in, level_in, flags_in, keep_alive_in}
use Rattle.packets.proofs.connect.read_connect.Goals as goal

pub returns-in_err-name : goal.returns-in_err-name
unfolding connect_in
returns-in_err-name c =
    let p = err_from_is_err_and c.from_residual.result c.from_residual.ensures.1 in
    let e = c.in_err-name.ensures.answer in
    record { answer = rw (p.1, p.2, e.0, e.1) }

pub returns-then-not-is_protocol_name : goal.returns-then-not-is_protocol_name
unfolding connect_in
returns-then-not-is_protocol_name c = record { answer = rw (c.in_ok-name.ensures.answer, ← c.if-not-is_protocol_name.ensures.answer, c.bad.ensures.answer) }

pub returns-in_err-byte : goal.returns-in_err-byte
unfolding connect_in level_in
returns-in_err-byte c =
    let p = err_from_is_err_and c.from_residual-in_err-byte.result c.from_residual-in_err-byte.ensures.1 in
    let e = c.in_err-byte.ensures.answer in
    record { answer = rw (p.1, p.2, c.in_ok-name.ensures.answer, ← c.if-not-is_protocol_name.ensures.answer, e.0, e.1, c.in_ok-name.ensures.place) }

pub returns-then-branch-ne-PROTOCOL_LEVEL : goal.returns-then-branch-ne-PROTOCOL_LEVEL
unfolding connect_in level_in
returns-then-branch-ne-PROTOCOL_LEVEL c =
    record {
      answer = rw (c.in_ok-name.ensures.answer, ← c.if-not-is_protocol_name.ensures.answer, c.in_ok-byte.ensures.answer, ne_eqb _ 4 c.if-branch-ne-PROTOCOL_LEVEL.true);
    }

pub returns-in_err-byte-2 : goal.returns-in_err-byte-2
unfolding connect_in level_in flags_in
returns-in_err-byte-2 c =
    let p = err_from_is_err_and c.from_residual-in_err-byte-2.result c.from_residual-in_err-byte-2.ensures.1 in
    let e = c.in_err-byte-2.ensures.answer in
    record {
      answer = rw (
        p.1,
        p.2,
        c.in_ok-name.ensures.answer,
        ← c.if-not-is_protocol_name.ensures.answer,
        c.in_ok-byte.ensures.answer,
        eq-eqb _ 4 c.if-branch-ne-PROTOCOL_LEVEL.false,
        e.0,
        e.1,
        c.in_ok-byte.ensures.place,
        c.in_ok-name.ensures.place,
      );
    }

pub returns-then-branch-ne0 : goal.returns-then-branch-ne0
unfolding connect_in level_in flags_in
returns-then-branch-ne0 c =
    record {
      answer = rw (
        c.in_ok-name.ensures.answer,
        ← c.if-not-is_protocol_name.ensures.answer,
        c.in_ok-byte.ensures.answer,
        eq-eqb _ 4 c.if-branch-ne-PROTOCOL_LEVEL.false,
        c.in_ok-byte-2.ensures.answer,
        ne_eqb _ 0 c.if-branch-ne0.true,
        c.bad-then-branch-ne0.ensures.answer,
        c.in_ok-byte.ensures.place,
        c.in_ok-name.ensures.place,
      );
    }

pub returns-in_err-number : goal.returns-in_err-number
unfolding connect_in level_in flags_in keep_alive_in
returns-in_err-number c =
    let p = err_from_is_err_and c.from_residual-in_err-number.result c.from_residual-in_err-number.ensures.1 in
    let e = c.in_err-number.ensures.answer in
    record {
      answer = rw (
        p.1,
        p.2,
        c.in_ok-name.ensures.answer,
        ← c.if-not-is_protocol_name.ensures.answer,
        c.in_ok-byte.ensures.answer,
        eq-eqb _ 4 c.if-branch-ne-PROTOCOL_LEVEL.false,
        c.in_ok-byte-2.ensures.answer,
        eq-eqb _ 0 c.if-branch-ne0.false,
        e.0,
        e.1,
        c.in_ok-byte-2.ensures.place,
        c.in_ok-byte.ensures.place,
        c.in_ok-name.ensures.place,
      );
    }

pub returns : goal.returns
unfolding connect_in level_in flags_in keep_alive_in
returns c =
    record {
      answer = rw (
        c.in_ok-name.ensures.answer,
        ← c.if-not-is_protocol_name.ensures.answer,
        c.in_ok-byte.ensures.answer,
        eq-eqb _ 4 c.if-branch-ne-PROTOCOL_LEVEL.false,
        c.in_ok-byte-2.ensures.answer,
        eq-eqb _ 0 c.if-branch-ne0.false,
        c.in_ok-number.ensures.answer,
        c.read_client.ensures.answer,
        c.in_ok-number.ensures.place,
        c.in_ok-byte-2.ensures.place,
        c.in_ok-byte.ensures.place,
        c.in_ok-name.ensures.place,
      );
    }
