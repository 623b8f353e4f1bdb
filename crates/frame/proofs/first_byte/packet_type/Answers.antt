use Rattle.std.proofs.Common.{◌∙◌}
use Rattle.frame.specs.FirstByte.{type_number, type_in}
use Rattle.frame.proofs.Types.{decoded}
use Rattle.frame.proofs.first_byte.packet_type.Goals as goal

pub returns : goal.returns
unfolding type_number
returns c = let h = decoded (type_in c.args.first) _ _ c.type_number.ensures.answer c.try_from.ensures in record { answer = c.ok.ensures.value ∙ h }
