-- The memory of one row.
use Rattle.std.proofs.Common.{◌≤◌, length, arith}
use Rattle.store.specs.declared.row.RowBuffer.{RowBuffer}
use Rattle.store.specs.Row.{held}

-- a row is never longer than its memory
pub held_short : (b : RowBuffer) → length (held b) ≤ 560
held_short b = omega (arith, b.short, b.bytes.ok.0)
