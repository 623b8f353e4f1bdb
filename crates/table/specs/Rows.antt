-- What many rows hold.
use Rattle.std.specs.Prelude.{ℕ, cond, List, [], map, length, vec_items, sum_by, ◌==◌, slice_index_or}
use Rattle.store.specs.declared.key.Key.{Key}
use Rattle.store.specs.Key.{slot}
use Rattle.store.specs.Row.{held}
use Rattle.table.specs.declared.rows.Rows.{Rows}

-- the bytes of each row, none where no row stands
abbrev pub contents : Rows → List (List ℕ)
contents rows = map held (vec_items rows.places)

-- the row at a key
abbrev pub row_at : List (List ℕ) → Key → List ℕ
row_at rows key = slice_index_or rows (slot key.kind key.number) []

-- a row counts where it has bytes
abbrev pub counts : List ℕ → ℕ
counts row = cond (length row == 0) 0 1

-- how many rows stand
abbrev pub standing : List (List ℕ) → ℕ
standing rows = sum_by counts rows
