use Rattle.std.proofs.Common.{◌≡◌, ◌%◌, Some, None, Err, sym, ap, ◌∙◌, arith}
use Rattle.std.proofs.lemmas.Result.{err_from_is_err_and}
use Rattle.frame.specs.declared.field.Field.TheVariants.{FirstByte}
use Rattle.frame.specs.Parts.{after_first, parts_in}
use Rattle.frame.proofs.Apart.{no_first}
use Rattle.frame.proofs.parts.split_packet.Goals as goal

pub returns-in_err-first-clause-answer : goal.returns-in_err-first-clause-answer
returns-in_err-first-clause-answer c =
    let p = err_from_is_err_and c.from_residual.result c.from_residual.ensures.1 in
    let none : c.split_first.result ≡ None = grind arith in
    let bad : c.in_err-first.field-0.0 ≡ record { field = FirstByte; place = 0 } = grind arith in
    let short = rw none at c.split_first.ensures.cases in
    rw (p.1, p.2) (ap (λ e. Err e) bad ∙ no_first c.args.bytes.now (omega arith))

pub returns-in_err-packet_type-clause-answer : goal.returns-in_err-packet_type-clause-answer
unfolding parts_in
returns-in_err-packet_type-clause-answer c =
    let p = err_from_is_err_and c.from_residual-in_err-packet_type.result c.from_residual-in_err-packet_type.ensures.1 in
    let some : c.split_first.result ≡ Some (c.in_ok-first.first, c.in_ok-first.rest) = grind arith in
    let parts = rw some at c.split_first.ensures.cases in
    let none : c.packet_type.result ≡ None = grind arith in
    let bad : c.in_err-packet_type.field-0.0 ≡ record { field = FirstByte; place = 0 } = grind arith in
    rw (p.1, p.2) (ap (λ e. Err e) bad ∙ ap (λ o. after_first o (c.in_ok-first.first.now % 16) c.in_ok-first.rest.now) (sym none ∙ c.packet_type.ensures.answer) ∙ ap parts_in (sym parts.0))

pub returns-clause-answer : goal.returns-clause-answer
unfolding parts_in
returns-clause-answer c =
    let some : c.split_first.result ≡ Some (c.in_ok-first.first, c.in_ok-first.rest) = grind arith in
    let parts = rw some at c.split_first.ensures.cases in
    let is : c.packet_type.result ≡ Some c.in_ok-packet_type.packet_type = grind arith in
    c.split_rest.ensures.answer ∙ ap (λ o. after_first o (c.in_ok-first.first.now % 16) c.in_ok-first.rest.now) (sym is ∙ c.packet_type.ensures.answer) ∙ ap parts_in (sym parts.0)
