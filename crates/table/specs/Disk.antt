-- The disk that a table shows.
use Rattle.std.specs.Prelude.{ℕ, cond, List, [], nat_lt, slice_index_or}
use Rattle.store.specs.Disk.{Disk}
use Rattle.store.specs.Key.{slot}
use Rattle.store.specs.Making.{made_limit}
use Rattle.table.specs.declared.Table.{Table}
use Rattle.table.specs.Rows.{contents}

-- the disk of rows by their places, with the free rows and writes left
abbrev pub rows_disk : List (List ℕ) → ℕ → ℕ → Disk
rows_disk rows free writes = record {
  rows = λ k n. cond (nat_lt n (made_limit k)) (slice_index_or rows (slot k n) []) [];
  limit = made_limit;
  free = free;
  writes = writes;
}

-- what a table shows
abbrev pub table_disk : Table → Disk
table_disk t = rows_disk (contents t.rows) t.budget.free t.budget.writes
