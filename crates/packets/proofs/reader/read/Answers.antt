use Rattle.std.proofs.lemmas.Result.{err_from_is_err_and}
use Rattle.packets.specs.Reads.{reads}
use Rattle.packets.proofs.reader.read.Goals as goal

pub returns-in_err-parts : goal.returns-in_err-parts
unfolding reads
returns-in_err-parts c =
    let p = err_from_is_err_and c.from_residual.result c.from_residual.ensures.1 in
    record { answer = rw (p.1, p.2, ← c.in_err-parts.ensures.answer) }

pub returns : goal.returns
unfolding reads
returns c = record { answer = rw (← c.in_ok-parts.ensures.answer) c.read_body.ensures.answer }
