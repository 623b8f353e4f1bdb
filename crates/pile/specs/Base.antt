-- The disk that a table or a journal shows.
use Rattle.std.specs.Prelude.{◌≡◌, refl}
use Rattle.std.proofs.Common.{sym, subst}
use Rattle.store.specs.Disk.{Disk, Sound}
use Rattle.table.specs.Disk.{table_disk}
use Rattle.table.specs.Sound.{table_sound}
use Rattle.table.specs.declared.Table.{Table}
use Rattle.journal.specs.declared.Journal.{Journal}
use Rattle.journal.specs.Disk.{journal_disk}
use Rattle.journal.specs.Sound.{journal_sound}
use Rattle.pile.specs.declared.base.Base.{Base}
use Rattle.pile.specs.declared.base.Base.TheVariants.{Table as TableBase, Journal as JournalBase}

abbrev pub base_disk : Base → Disk
base_disk (TableBase t) = table_disk t
base_disk (JournalBase j) = journal_disk j

-- which of the two it is
abbrev pub IsTable : Base → Type 0
IsTable (TableBase t) = Unit {0}
IsTable (JournalBase j) = ⊥

abbrev pub IsJournal : Base → Type 0
IsJournal (TableBase t) = ⊥
IsJournal (JournalBase j) = Unit {0}

-- the proof that it is a sound disk; a reader may skip it
pub base_sound : (b : Base) → Sound (base_disk b)
base_sound (TableBase t) = table_sound t
base_sound (JournalBase j) = journal_sound j

-- the proofs that a base shows what the table or the journal in it shows; a reader may skip them
pub table_stands : (t : Table) (b : Base) → b ≡ TableBase t → (base_disk b ≡ table_disk t) × IsTable b
table_stands t b e = subst (λ x. (base_disk x ≡ table_disk t) × IsTable x) (sym e) (refl, tt)

pub journal_stands : (j : Journal) (b : Base) → b ≡ JournalBase j → (base_disk b ≡ journal_disk j) × IsJournal b
journal_stands j b e = subst (λ x. (base_disk x ≡ journal_disk j) × IsJournal x) (sym e) (refl, tt)
