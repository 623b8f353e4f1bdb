-- How much of a part is filters: words of private functions.
use Rattle.std.specs.Prelude.{◌≡◌, ℕ, ◌+◌, Bool, true, List, ◌++◌, length, Ok}
use Rattle.packets.specs.declared.packet.Filters.{Filters}
use Rattle.packets.specs.Filters.{Entry, Found, entries_of, filter_in}
use Rattle.packets.specs.Bytes.{entries_bytes, lawful_entries}

-- filters all of one kind, how many they are and the bytes that they take
pub record Spans (es : List Entry) (graded : Bool) (count : ℕ) (bytes : List ℕ) : Type 0 where
  pub many : length es ≡ count
  pub same : bytes ≡ entries_bytes es
  pub fitting : lawful_entries graded es ≡ true

-- some bytes begin with an entry, as it is read at some place
abbrev pub Leads : List ℕ → Entry → Type 0
Leads bs e = (graded : Bool) × (at : ℕ) × (x : Found) × (filter_in graded bs at ≡ Ok x) × (x.entry ≡ e)

-- the filters of a part: these stand at its start, and the others are those of the rest
pub record Follows (f : Filters) (es : List Entry) (rest : Filters) : Type 0 where
  pub whole : entries_of f ≡ es ++ entries_of rest
  pub bytes : f.part.now ≡ entries_bytes es ++ rest.part.now
  pub many : f.count ≡ length es + rest.count
  pub kind : rest.with_qos ≡ f.with_qos
  pub fitting : lawful_entries f.with_qos es ≡ true
