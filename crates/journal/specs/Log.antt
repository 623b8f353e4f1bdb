-- The changes that a log keeps, and how many it has places for.
use Rattle.std.specs.Prelude.{ℕ, List, vec_len}
use Rattle.journal.specs.declared.log.Log.{Log}
use Rattle.journal.specs.Changes.{Change}
use Rattle.journal.specs.Entry.{kept}

-- its changes, oldest first
abbrev pub logged : Log → List Change
logged l = kept l.places.entries l.taken

-- how many changes it has places for
abbrev pub places_of : Log → ℕ
places_of l = vec_len l.places.entries
