-- The proof that a table shows a sound disk; the store's contract cites it, and a reader may skip it.
use Rattle.std.specs.Prelude.{ℕ, zero, suc, ◌≤◌, Bool, true, false, cond, List, [], ◌∷◌, map, length, vec_items, slice_index_or}
use Rattle.std.proofs.Common.{arith}
use Rattle.std.proofs.lemmas.Bool.{cond-false, le-ltb}
use Rattle.store.specs.declared.row.RowBuffer.{RowBuffer}
use Rattle.store.specs.Row.{held}
use Rattle.store.proofs.Memory.{held_short}
use Rattle.store.specs.Disk.{Sound}
use Rattle.table.specs.declared.Table.{Table}
use Rattle.table.specs.Disk.{table_disk}

short_rows : (rs : List RowBuffer) (i : ℕ) → length (slice_index_or (map held rs) i []) ≤ 560
short_rows [] i = omega arith
short_rows (r ∷ rs) zero = held_short r
short_rows (r ∷ rs) (suc i) = short_rows rs i

short_cond : (t : Bool) (r : List ℕ) → length r ≤ 560 → length (cond t r []) ≤ 560
short_cond true r h = h
short_cond false r h = omega arith

pub table_sound : (t : Table) → Sound (table_disk t)
table_sound t = record {
  short = λ k n. short_cond _ _ (short_rows (vec_items t.rows.places) _);
  inside = λ k n h. cond-false _ _ _ (le-ltb _ _ h);
}
