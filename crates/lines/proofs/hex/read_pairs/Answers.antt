use Rattle.std.proofs.Common.{◌-◌, ◌≤◌, length, take, drop, ap, ◌∙◌, arith, ltb-false, ltb-true}
use Rattle.lines.specs.Hex.{pairs_in}
use Rattle.lines.proofs.Hexes.{prepend, more_read}
use Rattle.lines.proofs.hex.read_pairs.Goals as goal

pub loop-rest-preserved : goal.loop-rest-preserved
loop-rest-preserved c =
    let rest = c.loop-rest.rest.now in
    let two : 2 ≤ length rest = omega (arith, ltb-true, ltb-false) in
    ap (λ xs. prepend xs (pairs_in (take (length rest - 2) (drop 2 rest)))) c.in_ok-push.ensures.items
    ∙ more_read _ rest _ _ _ two c.in-Some-Some.ensures.answer c.in-Some-Some.ensures'.answer c.loop-rest.invariant
