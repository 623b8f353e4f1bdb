use Rattle.std.proofs.Common.{◌≡◌, sym, arith, rules}
use Rattle.std.proofs.lemmas.Result.{err_from_is_err_and}
use Rattle.packets.specs.Fields.{length_prefixed}
use Rattle.packets.proofs.Steps.{number_length, takes_behind}
use Rattle.packets.proofs.cursor.Cursor.text.Goals as goal

pub returns-in_err-count-clause-answer : goal.returns-in_err-count-clause-answer
unfolding length_prefixed
returns-in_err-count-clause-answer c =
    let p = err_from_is_err_and c.from_residual.result c.from_residual.ensures.1 in
    let e = c.in_err-count.ensures.answer in
    rw (p.1, p.2) (rw e.0, e.1)

pub returns-clause-answer : goal.returns-clause-answer
unfolding length_prefixed
returns-clause-answer c =
    let count : c.from.result ≡ c.in_ok-count.count = search rules in
    let n = rw (sym count) at c.in_ok-count.ensures.answer in
    let two = number_length c.args.self.now.bytes.now _ _ n in
    rw n (takes_behind _ c.args.self.now.bytes.now _ c.args.self.now.at _ _ _ (omega (arith, c.in_ok-count.ensures.place)) c.take.ensures.answer)
