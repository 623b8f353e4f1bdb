use Rattle.std.proofs.Common.{arith}
use Rattle.std.proofs.lemmas.Fmt.{decimal_is_IsNumeral}
use Rattle.lines.proofs.decimal.decimal_law.Goals as goal

pub returns : goal.returns
returns c = record { law = λ n h. decimal_is_IsNumeral n (omega arith) }
