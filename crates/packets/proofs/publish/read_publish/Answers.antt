use Rattle.std.proofs.Common.{leb}
use Rattle.std.proofs.lemmas.Result.{err_from_is_err_and}
use Rattle.std.proofs.lemmas.Bool.{le-leb, lt-leb}
use Rattle.packets.specs.Fields.{text_in}
use Rattle.packets.specs.Reads.{publish_in, topic_in, payload_in}
use Rattle.packets.proofs.publish.read_publish.Goals as goal

pub returns-in_err-qos : goal.returns-in_err-qos
unfolding publish_in
returns-in_err-qos c =
    let p = err_from_is_err_and c.from_residual.result c.from_residual.ensures.1 in
    let e = c.in_err-qos.ensures.answer in
    record { answer = rw (p.1, p.2, e.0, e.1) }

pub returns-in_err-topic : goal.returns-in_err-topic
unfolding publish_in topic_in text_in
returns-in_err-topic c =
    let p = err_from_is_err_and c.from_residual-in_err-topic.result c.from_residual-in_err-topic.ensures.1 in
    let e = c.in_err-topic.ensures.answer in
    record { answer = rw (p.1, p.2, c.in_ok-qos.ensures.answer, e.0, e.1) }

pub returns-then-not-is_topic_name : goal.returns-then-not-is_topic_name
unfolding publish_in topic_in text_in
returns-then-not-is_topic_name c =
    record { answer = rw (c.in_ok-qos.ensures.answer, c.in_ok-topic.ensures.answer, ← c.if-not-is_topic_name.ensures.answer, c.bad.ensures.answer) }

pub returns-in_err-id : goal.returns-in_err-id
unfolding publish_in topic_in text_in
returns-in_err-id c =
    let p = err_from_is_err_and c.from_residual-in_err-id.result c.from_residual-in_err-id.ensures.1 in
    let flow = c.in_err-id.ensures.answer (leb 8 c.args.flags) c.in_ok-topic.topic.now c.args.cursor.at in
    record {
      answer = rw (p.1, p.2, c.in_ok-qos.ensures.answer, c.in_ok-topic.ensures.answer, ← c.if-not-is_topic_name.ensures.answer, ← c.in_ok-topic.ensures.place) flow;
    }

pub returns-then-cursor-gt-MAX_PAYLOAD : goal.returns-then-cursor-gt-MAX_PAYLOAD
unfolding publish_in topic_in text_in payload_in
returns-then-cursor-gt-MAX_PAYLOAD c =
    let flow = c.in_ok-id.ensures.answer (leb 8 c.args.flags) c.in_ok-topic.topic.now c.args.cursor.at in
    record {
      answer = rw (
        c.in_ok-qos.ensures.answer,
        c.in_ok-topic.ensures.answer,
        ← c.if-not-is_topic_name.ensures.answer,
        ← c.in_ok-topic.ensures.place,
        ← flow,
        lt-leb _ 256 c.if-cursor-gt-MAX_PAYLOAD.true,
        c.bad-then-cursor-gt-MAX_PAYLOAD.ensures.answer,
      );
    }

pub returns : goal.returns
unfolding publish_in topic_in text_in payload_in
returns c =
    let flow = c.in_ok-id.ensures.answer (leb 8 c.args.flags) c.in_ok-topic.topic.now c.args.cursor.at in
    record {
      answer = rw (
        c.in_ok-qos.ensures.answer,
        c.in_ok-topic.ensures.answer,
        ← c.if-not-is_topic_name.ensures.answer,
        ← c.in_ok-topic.ensures.place,
        ← flow,
        le-leb _ 256 c.if-cursor-gt-MAX_PAYLOAD.false,
      );
    }
