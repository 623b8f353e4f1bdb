-- Operations on a store as numbers, and what each answers and leaves.
use Rattle.std.specs.Prelude.{ℕ, ◌+◌, ◌/◌, ◌%◌, cond, List, [], length, take, drop, Ok, Err, Result, ◌==◌, nat_le}
use Rattle.store.specs.declared.kind.Kind.{Kind}
use Rattle.store.specs.declared.kind.Kind.TheVariants.{Session, Message}
use Rattle.store.specs.declared.kind.Refusal.{Refusal}
use Rattle.store.specs.declared.kind.Refusal.TheVariants.{Bad, Gone, NoRoom}
use Rattle.store.specs.Disk.{Disk, load_answer, load_buffer, put_answer, put_after, drop_answer, drop_after, powered}
use Rattle.exports.specs.declared.operation.Operation.{Operation}
use Rattle.exports.specs.declared.operation.Operation.TheVariants.{Put, Remove, Load, Power, Free}

-- bits 8 to 15 are 0 for sessions
abbrev pub kind_in : ℕ → Kind
kind_in w = cond (w / 256 % 256 == 0) Session Message

-- bits 16 to 31
abbrev pub number_in : ℕ → ℕ
number_in w = w / 65536 % 65536

-- bits 0 to 7 tell the operation; a put has the row's start in bits 32 to 47 and its length in bits 48 to 63
abbrev pub operation_in : ℕ → Operation
operation_in w =
    cond (w % 256 == 0) (Put (kind_in w) (number_in w) (w / 4294967296 % 65536) (w / 281474976710656))
    (cond (w % 256 == 1) (Remove (kind_in w) (number_in w))
    (cond (w % 256 == 2) (Load (kind_in w) (number_in w))
    (cond (w % 256 == 3) (Power (number_in w)) Free)))

-- 2^32 and 1 for bad, 2 for gone, 3 for no room
abbrev pub refusal_number : Refusal → ℕ
refusal_number Bad = 4294967297
refusal_number Gone = 4294967298
refusal_number NoRoom = 4294967299

-- 0 for done
abbrev pub done_number : Result (Unit {0}) Refusal → ℕ
done_number (Ok u) = 0
done_number (Err e) = refusal_number e

-- the length itself
abbrev pub length_number : Result ℕ Refusal → ℕ
length_number (Ok n) = n
length_number (Err e) = refusal_number e

-- so many bytes of the pool from a start on, none where it has not so many
abbrev pub row_in : List ℕ → ℕ → ℕ → List ℕ
row_in pool start n = cond (nat_le (start + n) (length pool)) (take n (drop start pool)) []

-- what an operation answers, on a disk and a buffer
abbrev pub reply : Disk → List ℕ → List ℕ → Operation → ℕ
reply d pool buffer (Put k n s l) = done_number (put_answer d k n (row_in pool s l))
reply d pool buffer (Remove k n) = done_number (drop_answer d k n)
reply d pool buffer (Load k n) = length_number (load_answer d k n buffer)
reply d pool buffer (Power w) = 0
reply d pool buffer Free = d.free

-- the disk after it
abbrev pub disk_after : Disk → List ℕ → Operation → Disk
disk_after d pool (Put k n s l) = put_after (put_answer d k n (row_in pool s l)) d k n (row_in pool s l)
disk_after d pool (Remove k n) = drop_after (drop_answer d k n) d k n
disk_after d pool (Load k n) = d
disk_after d pool (Power w) = powered d w
disk_after d pool Free = d

-- the buffer after it
abbrev pub buffer_after : Disk → List ℕ → Operation → List ℕ
buffer_after d buffer (Put k n s l) = buffer
buffer_after d buffer (Remove k n) = buffer
buffer_after d buffer (Load k n) = load_buffer (load_answer d k n buffer) d k n buffer
buffer_after d buffer (Power w) = buffer
buffer_after d buffer Free = buffer
