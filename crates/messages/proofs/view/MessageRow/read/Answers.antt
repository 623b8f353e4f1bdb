use Rattle.messages.proofs.Steps.{row_read}
use Rattle.messages.proofs.view.MessageRow.read.Goals as goal

pub returns : goal.returns
returns c =
    record {
      answer =
          row_read c.args.bytes.now c.in_ok-rank.after_rank.now c.in_ok-origin.after_origin.now c.in_ok-behind.field-0.now _ _ _ c.in_ok-map.ensures.bound c.then_some.ensures
          c.is_message.ensures.answer c.in_ok-rank.ensures.answer c.in_ok-origin.ensures.answer c.in_ok-map.ensures.answer c.in_ok-behind.ensures.answer c.in_ok-topic.ensures.answer;
    }
