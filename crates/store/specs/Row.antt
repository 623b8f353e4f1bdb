-- The memory of one row.
use Rattle.std.specs.Prelude.{ℕ, cond, List, ◌++◌, length, drop, is_ok, Ok, Err, vec_items, Result, nat_le}
use Rattle.store.specs.declared.kind.Refusal.{Refusal}
use Rattle.store.specs.declared.kind.Refusal.TheVariants.{Bad}
use Rattle.store.specs.declared.row.RowBuffer.{RowBuffer}
use Rattle.store.specs.Disk.{good_row}

-- the bytes that it holds; none where there is no row
abbrev pub held : RowBuffer → List ℕ
held b = vec_items b.bytes

-- a row that is put has 1 to 560 bytes, and any other is bad
abbrev pub row_answer : List ℕ → Result (Unit {0}) Refusal
row_answer row = cond (good_row row) (Ok tt) (Err Bad)

-- a buffer below 560 bytes is bad, else the row's length comes
abbrev pub read_answer : List ℕ → List ℕ → Result ℕ Refusal
read_answer row buffer = cond (nat_le 560 (length buffer)) (Ok (length row)) (Err Bad)

-- the row at the buffer's start, and the rest as it was
abbrev pub read_buffer : Result ℕ Refusal → List ℕ → List ℕ → List ℕ
read_buffer r row buffer = cond (is_ok r) (row ++ drop (length row) buffer) buffer

-- more than 560 bytes are bad
abbrev pub write_answer : List ℕ → Result (Unit {0}) Refusal
write_answer row = cond (nat_le (length row) 560) (Ok tt) (Err Bad)

-- the new row where it was taken
abbrev pub write_after : Result (Unit {0}) Refusal → List ℕ → List ℕ → List ℕ
write_after r old row = cond (is_ok r) row old
