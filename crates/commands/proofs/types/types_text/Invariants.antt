use Rattle.std.proofs.Common.{◌≡◌, string_bytes}
use Rattle.commands.specs.Types.{types_text}
use Rattle.commands.proofs.types.types_text.Given as goal

abbrev pub invariant-loop-first : goal.invariant-loop-first
invariant-loop-first l = string_bytes l.text ≡ types_text l.first
