-- The disk that a journal shows, and the changes behind it.
use Rattle.std.specs.Prelude.{ℕ, cond, not, ◌&&◌, List, [], is_ok, Result}
use Rattle.store.specs.declared.kind.Kind.{Kind}
use Rattle.store.specs.declared.kind.Refusal.{Refusal}
use Rattle.store.specs.Disk.{Disk, absent}
use Rattle.journal.specs.declared.Journal.{Journal}
use Rattle.store.specs.Making.{made_limit}
use Rattle.journal.specs.Changes.{Change, change_to, replay, appended}
use Rattle.journal.specs.Log.{logged, places_of}

-- its changes, oldest first
abbrev pub changes : Journal → List Change
changes j = logged j.log

-- how many changes it has places for
abbrev pub places : Journal → ℕ
places j = places_of j.log

-- its rows are the replay of its changes
abbrev pub journal_disk : Journal → Disk
journal_disk j = record { rows = replay (changes j); limit = made_limit; free = j.budget.free; writes = j.budget.writes }

-- nothing lies outside what it shows
abbrev pub outside : Journal → Unit {0}
outside j = tt

-- its changes after a put that answered r: one more if it is done
abbrev pub put_changes : Result (Unit {0}) Refusal → Journal → Kind → ℕ → List ℕ → List Change
put_changes r j k n row = cond (is_ok r) (appended (places j) (changes j) (change_to k n row)) (changes j)

-- its changes after a drop that answered r: one more if it is done and a row stood
abbrev pub drop_changes : Result (Unit {0}) Refusal → Journal → Kind → ℕ → List Change
drop_changes r j k n =
    cond (is_ok r && not (absent (journal_disk j) k n)) (appended (places j) (changes j) (change_to k n [])) (changes j)
