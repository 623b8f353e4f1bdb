use Rattle.std.proofs.Common.{◌≤◌, ◌++◌, length, sym, ap, ◌∙◌, arith}
use Rattle.std.proofs.lemmas.List.{take_all}
use Rattle.packets.specs.Filters.{entries_of, entry_of}
use Rattle.commands.specs.Dissect.{entry_text, entries_text}
use Rattle.commands.proofs.Entries.{nth-none, nth_some, entries_more, few}
use Rattle.commands.proofs.dissect.told_and_counted.Goals as goal

pub returns-in_default : goal.returns-in_default
returns-in_default c =
    let es = entries_of c.args.filters in
    let end = nth-none c.loop-index.index es c.in_default.ensures.answer in
    record { answer = (c.loop-index.invariant.0 ∙ ap entries_text (take_all c.loop-index.index es end), omega arith) }

pub loop-index-preserved : goal.loop-index-preserved
loop-index-preserved c =
    let es = entries_of c.args.filters in
    let x = entry_of c.in-Some.filter in
    let at = c.in-Some.ensures.answer in
    let low = nth_some c.loop-index.index es x at in
    (c.in_ok-write.ensures.bytes ∙ ap (λ l. l ++ entry_text x) c.loop-index.invariant.0 ∙ sym (entries_more c.loop-index.index es x at), omega arith)

pub returns : goal.returns
returns c =
    let es = entries_of c.args.filters in
    let most = few c.args.filters in
    let end : length es ≤ c.loop-index.index = omega arith in
    record { answer = (c.loop-index.invariant.0 ∙ ap entries_text (take_all c.loop-index.index es end), omega arith) }
