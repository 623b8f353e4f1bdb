use Rattle.std.proofs.Common.{◌≡◌, ◌≤◌, length, take, string_bytes}
use Rattle.packets.specs.Filters.{entries_of}
use Rattle.commands.specs.Dissect.{entries_text}
use Rattle.commands.proofs.dissect.told_and_counted.Given as goal

abbrev pub invariant-loop-index : goal.invariant-loop-index
invariant-loop-index l = (string_bytes l.text ≡ entries_text (take l.index (entries_of l.filters))) × (l.index ≤ length (entries_of l.filters))
