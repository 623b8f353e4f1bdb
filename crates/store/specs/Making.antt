-- A store that has just been made, or why it was not.
use Rattle.std.specs.Prelude.{◌≡◌, ℕ, ◌<◌, ◌≤◌, [], Ok, Err, Result}
use Rattle.store.specs.declared.kind.Kind.{Kind}
use Rattle.store.specs.declared.kind.Kind.TheVariants.{Session, Message}
use Rattle.store.specs.declared.making.MakeError.{MakeError}
use Rattle.store.specs.declared.making.MakeError.TheVariants.{Bad, NoMemory}
use Rattle.store.specs.Disk.{Disk}

-- sessions have numbers below 128, messages below 1,024
abbrev pub made_limit : Kind → ℕ
made_limit Session = 128
made_limit Message = 1024

-- no row stands, all are free, and no write is left
abbrev pub empty_disk : ℕ → Disk
empty_disk rows = record { rows = λ k n. []; limit = made_limit; free = rows; writes = 0 }

-- a store for a number of rows is made empty; more than 1,152 are bad; else only want of memory refuses
abbrev pub Makes : {T : Type 0} → (T → Disk) → ℕ → Result T MakeError → Type 0
Makes disk rows (Ok t) = (rows ≤ 1152) × (disk t ≡ empty_disk rows)
Makes disk rows (Err Bad) = 1152 < rows
Makes disk rows (Err NoMemory) = rows ≤ 1152
