use Rattle.std.proofs.Common.{sym, ap, ◌∙◌, Err, arith}
use Rattle.packets.proofs.Passing.{some_codes_full, passing_none, passing_more, passing_bad, passing_over, passing_all}
use Rattle.packets.proofs.subscribe.judge_codes.Goals as goal

pub loop-i-init : goal.loop-i-init
loop-i-init c = record { few = omega arith; passing = passing_none c.args.cursor.bytes.now c.args.cursor.at }

pub returns-then-i-eq-MAX_FILTERS : goal.returns-then-i-eq-MAX_FILTERS
returns-then-i-eq-MAX_FILTERS c =
    let all = some_codes_full c.args.cursor.bytes.now c.args.cursor.at c.if-is_empty.ensures in
    record { answer = ap (λ e. Err e) c.bad.ensures.answer ∙ passing_over _ _ c.loop-i.i c.loop-i.invariant.passing (omega arith) c.if-i-eq-MAX_FILTERS.true ∙ all }

pub returns-then-not-is_code : goal.returns-then-not-is_code
returns-then-not-is_code c =
    let all = some_codes_full c.args.cursor.bytes.now c.args.cursor.at c.if-is_empty.ensures in
    record {
      answer = ap (λ e. Err e) c.bad-then-not-is_code.ensures.answer
          ∙ passing_bad _ _ c.loop-i.i c.loop-i.invariant.passing (omega arith) (omega arith) (sym c.if-not-is_code.ensures.answer) ∙ all;
    }

pub loop-i-preserved : goal.loop-i-preserved
loop-i-preserved c =
    record {
      few = omega arith;
      passing = passing_more _ _ c.loop-i.i c.loop-i.invariant.passing (omega arith) (omega arith) (sym c.if-not-is_code.ensures.answer);
    }

pub returns : goal.returns
returns c =
    let all = some_codes_full c.args.cursor.bytes.now c.args.cursor.at c.if-is_empty.ensures in
    record { answer = passing_all _ _ c.loop-i.i c.loop-i.invariant.passing tt (omega arith) ∙ all }
