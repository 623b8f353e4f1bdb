use Rattle.std.proofs.Common.{◌≡◌, Some, None, Err, inl, inr, sym, ap, ◌∙◌, arith}
use Rattle.std.proofs.lemmas.Result.{err_from_is_err_and}
use Rattle.frame.specs.declared.field.Field.TheVariants.{RemainingLength}
use Rattle.frame.proofs.Apart.{no_length, bad-length, good_length}
use Rattle.frame.proofs.parts.split_rest.Goals as goal
use Rattle.frame.proofs.parts.split_rest.Goals.{then-number-gt-BODY_BYTES-via-then-number-gt-BODY_BYTES, then-number-gt-BODY_BYTES-via-else-number-gt-BODY_BYTES+then-rest-count}

pub returns-in_err-number-clause-answer : goal.returns-in_err-number-clause-answer
returns-in_err-number-clause-answer c =
    let p = err_from_is_err_and c.from_residual.result c.from_residual.ensures.1 in
    let none : c.read_length.result ≡ None = grind arith in
    let bad : c.in_err-number.field-0.0 ≡ record { field = RemainingLength; place = 1 } = grind arith in
    rw (p.1, p.2) (ap (λ e. Err e) bad ∙ no_length c.args.packet_type c.args.flags c.args.rest.now (sym none ∙ c.read_length.ensures.answer))

pub returns-then-number-gt-BODY_BYTES-clause-answer : goal.returns-then-number-gt-BODY_BYTES-clause-answer
returns-then-number-gt-BODY_BYTES-clause-answer c =
    let n = c.in_ok-number.number in
    let k = c.in_ok-number.count in
    let some : c.read_length.result ≡ Some (n, k) = grind arith in
    bad-length c.args.packet_type c.args.flags c.args.rest.now n k (sym some ∙ c.read_length.ensures.answer)
    (elim c.then-number-gt-BODY_BYTES.branch [
      | then-number-gt-BODY_BYTES-via-then-number-gt-BODY_BYTES w ↦ inl w.if-number-gt-BODY_BYTES.true
      | then-number-gt-BODY_BYTES-via-else-number-gt-BODY_BYTES+then-rest-count w ↦ inr w.if-rest-count.true
    ])

pub returns-clause-answer : goal.returns-clause-answer
returns-clause-answer c =
    let n = c.in_ok-number.number in
    let k = c.in_ok-number.count in
    let some : c.read_length.result ≡ Some (n, k) = grind arith in
    good_length c.args.packet_type c.args.flags c.args.rest.now n k (sym some ∙ c.read_length.ensures.answer) c.if-number-gt-BODY_BYTES.false c.if-rest-count.false
