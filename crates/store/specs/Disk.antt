-- The meaning of a store: rows under a kind and a number, limits on the numbers, free rows, and writes left before power fails.
use Rattle.std.specs.Prelude.{◌≡◌, ℕ, ◌+◌, ◌-◌, ◌≤◌, Bool, cond, ◌&&◌, List, [], ◌++◌, length, drop, is_ok, Ok, Err, Result, ◌==◌, nat_le, nat_lt}
use Rattle.store.specs.declared.kind.Kind.{Kind}
use Rattle.store.specs.declared.kind.Refusal.{Refusal}
use Rattle.store.specs.declared.kind.Refusal.TheVariants.{Bad, Gone, NoRoom}
use Rattle.store.specs.Kind.{same_kind}

-- no bytes at a number mean that no row stands there
pub record Disk : Type 0 where
  pub rows : Kind → ℕ → List ℕ
  pub limit : Kind → ℕ
  pub free : ℕ
  pub writes : ℕ

-- what holds of every store: rows have at most 560 bytes, and none stands at or above its kind's limit
pub record Sound (d : Disk) : Type 0 where
  pub short : (k : Kind) (n : ℕ) → length (d.rows k n) ≤ 560
  pub inside : (k : Kind) (n : ℕ) → d.limit k ≤ n → d.rows k n ≡ []

-- no row stands at a number
abbrev pub absent : Disk → Kind → ℕ → Bool
absent d k n = length (d.rows k n) == 0

-- a key is good below its kind's limit
abbrev pub good_key : Disk → Kind → ℕ → Bool
good_key d k n = nat_lt n (d.limit k)

-- a row has 1 to 560 bytes
abbrev pub good_row : List ℕ → Bool
good_row row = nat_lt 0 (length row) && nat_le (length row) 560

-- the rows with one of them replaced
abbrev pub with_row : (Kind → ℕ → List ℕ) → Kind → ℕ → List ℕ → Kind → ℕ → List ℕ
with_row rows k n row j m = cond (same_kind j k && m == n) row (rows j m)

-- load: a bad key or a buffer below 560 bytes is bad, else the row's length, 0 where it is absent
abbrev pub load_answer : Disk → Kind → ℕ → List ℕ → Result ℕ Refusal
load_answer d k n buffer = cond (good_key d k n && nat_le 560 (length buffer)) (Ok (length (d.rows k n))) (Err Bad)

-- the buffer after a load that answered r: the row at its start, the rest as it was
abbrev pub load_buffer : Result ℕ Refusal → Disk → Kind → ℕ → List ℕ → List ℕ
load_buffer r d k n buffer = cond (is_ok r) (d.rows k n ++ drop (length (d.rows k n)) buffer) buffer

-- put: a bad key or row is bad; else no writes left is gone; else an absent row without a free one finds no room
abbrev pub put_answer : Disk → Kind → ℕ → List ℕ → Result (Unit {0}) Refusal
put_answer d k n row =
    cond (good_key d k n && good_row row)
    (cond (d.writes == 0) (Err Gone) (cond (absent d k n && d.free == 0) (Err NoRoom) (Ok tt)))
    (Err Bad)

-- the row stands, one write is spent, and one free row if it was absent
abbrev pub stands : Disk → Kind → ℕ → List ℕ → Disk
stands d k n row = record {
  rows = with_row d.rows k n row;
  limit = d.limit;
  free = cond (absent d k n) (d.free - 1) d.free;
  writes = d.writes - 1;
}

-- the disk after a put that answered r
abbrev pub put_after : Result (Unit {0}) Refusal → Disk → Kind → ℕ → List ℕ → Disk
put_after r d k n row = cond (is_ok r) (stands d k n row) d

-- drop: a bad key is bad; an absent row is done without a write; else no writes left is gone
abbrev pub drop_answer : Disk → Kind → ℕ → Result (Unit {0}) Refusal
drop_answer d k n =
    cond (good_key d k n) (cond (absent d k n) (Ok tt) (cond (d.writes == 0) (Err Gone) (Ok tt))) (Err Bad)

-- the row is gone, one row more is free, and one write is spent
abbrev pub removed : Disk → Kind → ℕ → Disk
removed d k n = record {
  rows = with_row d.rows k n [];
  limit = d.limit;
  free = d.free + 1;
  writes = d.writes - 1;
}

-- the disk after a drop that answered r
abbrev pub drop_after : Result (Unit {0}) Refusal → Disk → Kind → ℕ → Disk
drop_after r d k n = cond (is_ok r) (cond (absent d k n) d (removed d k n)) d

-- the disk once w writes are left
abbrev pub powered : Disk → ℕ → Disk
powered d w = record { rows = d.rows; limit = d.limit; free = d.free; writes = w }
