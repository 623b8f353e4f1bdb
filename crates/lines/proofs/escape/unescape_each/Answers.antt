use Rattle.std.proofs.Common.{vec_items, arith}
use Rattle.std.proofs.lemmas.Bool.Decides.{nat_tests}
use Rattle.lines.proofs.Escapes.{no_bytes, unit_shorter}
use Rattle.lines.proofs.escape.unescape_each.Goals as goal

pub returns-in_default : goal.returns-in_default
returns-in_default c = record {
  answer = λ bs h e.
      no_bytes c.args.text.now bs (vec_items c.loop-rest.bytes) c.loop-rest.rest.now h c.loop-rest.invariant.1 c.loop-rest.invariant.0 (grind (arith, nat_tests)) c.in_default.ensures.answer e;
}

pub loop-rest-smaller : goal.loop-rest-smaller
loop-rest-smaller c = unit_shorter c.in-Some.byte c.in-Some.more.now c.loop-rest.rest.now c.in-Some.ensures.answer.0
