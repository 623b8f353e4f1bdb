use Rattle.std.proofs.Common.{◌≡◌, length, refl, rules, arith, length-append}
use Rattle.frame.specs.Length.{length_bytes}
use Rattle.frame.specs.Parts.{packet_bytes}
use Rattle.writer.specs.Out.{joined}
use Rattle.writer.proofs.Counts.{needed, roomy, counted_short, unlawful, lawful_now, whole}
use Rattle.writer.proofs.out.Image.write_to.Goals as goal

pub returns-then-out-needed : goal.returns-then-out-needed
returns-then-out-needed c =
    let i = c.args.self in
    let e = needed i.first (joined i.body.now) c.body_length-count.ensures.answer c.length_width.ensures.answer c.saturating_add-needed.ensures in
    let short = counted_short (length (packet_bytes i.first (joined i.body.now))) (length c.args.out.now) (omega (arith, c.if-out-needed.true, e)) in
    record { sent = (short, e, refl) }

pub returns-then-not-lawful : goal.returns-then-not-lawful
returns-then-not-lawful c =
    let i = c.args.self in
    let fits = roomy i.first (joined i.body.now) (length c.args.out.now) (omega arith) c.body_length-count.ensures.answer c.length_width.ensures.answer c.saturating_add-needed.ensures c.if-out-needed.false in
    record { sent = (fits.0, unlawful _ _ _ fits.1 c.then-not-lawful.either, refl) }

pub put-requires : goal.put-requires
put-requires c =
    let i = c.args.self in
    let fits = roomy i.first (joined i.body.now) (length c.args.out.now) (omega arith) c.body_length-count.ensures.answer c.length_width.ensures.answer c.saturating_add-needed.ensures c.if-out-needed.false in
    let bytes : c.as_slice.result.now ≡ length_bytes c.body_length-count.result = search rules in
    let l = whole i.first (joined i.body.now) c.args.out.now fits.1 bytes refl refl in
    record { room = omega (arith, l.0, fits.0, length-append c.as_slice.result.now (joined i.body.now)) }

pub returns : goal.returns
returns c =
    let i = c.args.self in
    let fits = roomy i.first (joined i.body.now) (length c.args.out.now) (omega arith) c.body_length-count.ensures.answer c.length_width.ensures.answer c.saturating_add-needed.ensures c.if-out-needed.false in
    let bytes : c.as_slice.result.now ≡ length_bytes c.body_length-count.result = search rules in
    let all = whole i.first (joined i.body.now) c.args.out.now fits.1 bytes c.put.ensures.answer c.put.ensures.buffer in
    record { sent = (fits.0, lawful_now _ _ _ fits.1 c.if-not-lawful.false c.if-count-gt-BODY_BYTES.false, all.0, all.1) }
