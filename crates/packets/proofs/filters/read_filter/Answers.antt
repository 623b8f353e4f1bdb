use Rattle.std.proofs.lemmas.Result.{err_from_is_err_and}
use Rattle.packets.specs.Fields.{text_in}
use Rattle.packets.specs.Filters.{filter_in}
use Rattle.packets.proofs.filters.read_filter.Goals as goal

pub returns-in_err-bytes : goal.returns-in_err-bytes
unfolding filter_in text_in
returns-in_err-bytes c =
    let p = err_from_is_err_and c.from_residual.result c.from_residual.ensures.1 in
    let e = c.in_err-bytes.ensures.answer in
    record { answer = rw (p.1, p.2, e.0, e.1) }

pub returns-then-not-is_topic_filter : goal.returns-then-not-is_topic_filter
unfolding filter_in text_in
returns-then-not-is_topic_filter c = record { answer = rw (c.in_ok-bytes.ensures.answer, ← c.if-not-is_topic_filter.ensures.answer, c.bad.ensures.answer) }

pub returns-then-not-with_qos : goal.returns-then-not-with_qos
unfolding filter_in text_in
returns-then-not-with_qos c =
    record { answer = rw (c.in_ok-bytes.ensures.answer, ← c.if-not-is_topic_filter.ensures.answer, c.if-not-with_qos.true, c.in_ok-bytes.ensures.place) }

pub returns-in_err-number : goal.returns-in_err-number
unfolding filter_in text_in
returns-in_err-number c =
    let p = err_from_is_err_and c.from_residual-in_err-number.result c.from_residual-in_err-number.ensures.1 in
    let e = c.in_err-number.ensures.answer in
    record {
      answer = rw (p.1, p.2, c.in_ok-bytes.ensures.answer, ← c.if-not-is_topic_filter.ensures.answer, c.if-not-with_qos.false, e.0, e.1, c.in_ok-bytes.ensures.place);
    }

pub returns-in_err-qos : goal.returns-in_err-qos
unfolding filter_in text_in
returns-in_err-qos c =
    let p = err_from_is_err_and c.from_residual-in_err-qos.result c.from_residual-in_err-qos.ensures.1 in
    let e = c.in_err-qos.ensures.answer in
    record {
      answer = rw (
        p.1,
        p.2,
        c.in_ok-bytes.ensures.answer,
        ← c.if-not-is_topic_filter.ensures.answer,
        c.if-not-with_qos.false,
        c.in_ok-number.ensures.answer,
        e.0,
        e.1,
        c.in_ok-bytes.ensures.place,
      );
    }

pub returns : goal.returns
unfolding filter_in text_in
returns c =
    record {
      answer = rw (
        c.in_ok-bytes.ensures.answer,
        ← c.if-not-is_topic_filter.ensures.answer,
        c.if-not-with_qos.false,
        c.in_ok-number.ensures.answer,
        c.in_ok-qos.ensures.answer,
        c.in_ok-number.ensures.place,
        c.in_ok-bytes.ensures.place,
      );
    }
