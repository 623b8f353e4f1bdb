-- Calls on a store, one after another.
use Rattle.std.specs.Prelude.{◌≡◌, ℕ, ◌<◌, ◌≤◌, cond, List, [], ◌∷◌, length, Ok, Err, vec_items, Result, Vec}
use Rattle.std.specs.declared.alloc.AllocError.{AllocError}
use Rattle.std.specs.declared.alloc.Global.{Global}
use Rattle.store.specs.declared.kind.Kind.{Kind}
use Rattle.store.specs.declared.kind.Refusal.{Refusal}
use Rattle.store.specs.declared.kind.Refusal.TheVariants.{Bad}
use Rattle.store.specs.declared.making.MakeError.{MakeError}
use Rattle.store.specs.declared.making.MakeError.TheVariants.{Bad as TooMany, NoMemory}
use Rattle.store.specs.Change.{outcome, after}
use Rattle.store.specs.Disk.{Disk, good_key, powered}
use Rattle.store.specs.Making.{empty_disk}
use Rattle.table.specs.Disk.{table_disk}
use Rattle.journal.specs.Disk.{journal_disk}
use Rattle.agreement.specs.declared.Agreement.{Agreement}
use Rattle.agreement.specs.declared.Call.{Call}
use Rattle.agreement.specs.declared.Call.TheVariants.{Load, Write, Power, Free, Limit}

-- a number, or a refusal
abbrev pub Answer : Type 0
Answer = Result ℕ Refusal

-- the length of a row, into a buffer that is long enough
abbrev pub load_length : Disk → Kind → ℕ → Answer
load_length d k n = cond (good_key d k n) (Ok (length (d.rows k n))) (Err Bad)

-- a write answers no number
abbrev pub done : Result (Unit {0}) Refusal → Answer
done (Ok u) = Ok 0
done (Err e) = Err e

-- what a call answers
abbrev pub answer_of : Disk → Call → Answer
answer_of d (Load k n) = load_length d k n
answer_of d (Write c) = done (outcome d c)
answer_of d (Power w) = Ok 0
answer_of d Free = Ok d.free
answer_of d (Limit k) = Ok (d.limit k)

-- the disk after a call
abbrev pub next : Disk → Call → Disk
next d (Load k n) = d
next d (Write c) = after (outcome d c) d c
next d (Power w) = powered d w
next d Free = d
next d (Limit k) = d

-- what each call answers on the disk that those before it left
abbrev pub answers : Disk → List Call → List Answer
answers d [] = []
answers d (c ∷ cs) = answer_of d c ∷ answers (next d c) cs

-- the disk after all of them
abbrev pub final : Disk → List Call → Disk
final d [] = d
final d (c ∷ cs) = final (next d c) cs

-- the disk after a run; want of memory leaves it as it was
abbrev pub ran_after : Result (Vec Answer Global) AllocError → Disk → List Call → Disk
ran_after (Ok v) d cs = final d cs
ran_after (Err e) d cs = d

-- a store after all of them, made for a number of rows, and what each answered; more than 1,152 rows are bad, else only want of memory refuses
abbrev pub Runs : {S : Type 0} → (S → Disk) → ℕ → List Call → Result (S × Vec Answer Global) MakeError → Type 0
Runs disk rows cs (Ok (s, v)) = (rows ≤ 1152) × (vec_items v ≡ answers (empty_disk rows) cs) × (disk s ≡ final (empty_disk rows) cs)
Runs disk rows cs (Err TooMany) = 1152 < rows
Runs disk rows cs (Err NoMemory) = rows ≤ 1152

-- the same answers and the same disk, both those of a disk that was empty
pub record Agree (rows : ℕ) (cs : List Call) (a : Agreement) : Type 0 where
  pub room : rows ≤ 1152
  pub answered : vec_items a.of_table ≡ vec_items a.of_journal
  pub disks : table_disk a.table ≡ journal_disk a.journal
  pub table : vec_items a.of_table ≡ answers (empty_disk rows) cs
  pub ends : table_disk a.table ≡ final (empty_disk rows) cs

-- more than 1,152 rows are bad, else only want of memory refuses
abbrev pub Agrees : ℕ → List Call → Result Agreement MakeError → Type 0
Agrees rows cs (Ok a) = Agree rows cs a
Agrees rows cs (Err TooMany) = 1152 < rows
Agrees rows cs (Err NoMemory) = rows ≤ 1152
