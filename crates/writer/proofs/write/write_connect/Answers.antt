use Rattle.std.proofs.lemmas.List.{append-nil}
use Rattle.writer.proofs.write.write_connect.Goals as goal

pub returns : goal.returns
returns c = record { sent = simp (c.first_byte.ensures.answer, c.text_length.ensures.answer, c.is_text.ensures.answer, append-nil) at c.write_to.ensures.sent }
