use Rattle.std.proofs.Common.{ap, ◌∙◌}
use Rattle.commands.specs.Command.{named, word, after, command_in}
use Rattle.commands.proofs.command.read_command.Goals as goal

pub returns : goal.returns
unfolding command_in
returns c =
    let line = c.args.line.now in
    let n = c.next_word.ensures in
    let f = c.next_word-2.ensures in
    let s = c.next_word-3.ensures in
    let t = c.next_word-4.ensures in
    let two = f.after ∙ ap after n.after in
    let three = s.after ∙ ap after two in
    record {
      answer = c.command_of.ensures.answer
          ∙ (λ i. named (n.word i) ((f.word ∙ ap word n.after) i) ((s.word ∙ ap word two) i) ((t.word ∙ ap word three) i));
    }
