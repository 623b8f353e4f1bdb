use Rattle.std.proofs.lemmas.Result.{err_from_is_err_and}
use Rattle.packets.specs.Reads.{numbered_in}
use Rattle.packets.proofs.Steps.{flow_numbered}
use Rattle.packets.proofs.publish.flow_identifier.Goals as goal

pub returns-in_err-identifier-in-AtLeastOnce : goal.returns-in_err-identifier-in-AtLeastOnce
unfolding numbered_in
returns-in_err-identifier-in-AtLeastOnce c =
    let p = err_from_is_err_and c.from_residual.result c.from_residual.ensures.1 in
    record { answer = λ dup topic place. rw (p.1, p.2, ← flow_numbered dup c.args.qos topic place _ _ c.in-AtLeastOnce.is, c.in_err-identifier-in-AtLeastOnce.ensures.answer) }

pub returns-in_ok-identifier-in-AtLeastOnce : goal.returns-in_ok-identifier-in-AtLeastOnce
unfolding numbered_in
returns-in_ok-identifier-in-AtLeastOnce c =
    record {
      answer = λ dup topic place. rw (
        ← flow_numbered dup c.args.qos topic place _ _ c.in-AtLeastOnce.is,
        c.in_ok-identifier-in-AtLeastOnce.ensures.answer,
        c.in_ok-identifier-in-AtLeastOnce.ensures.place,
      );
    }
