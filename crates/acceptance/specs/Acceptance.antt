-- Whether the rows of a disk are those of a broker: which verdict comes, and what it says.
use Rattle.std.specs.Prelude.{◌≡◌, ℕ, ◌<◌, ◌≤◌, Bool, true, false, cond, not, ◌&&◌, ◌||◌, List, is_some, Some, None, Ok, Err, Option, Result, ◌==◌, nat_le, nat_lt}
use Rattle.store.specs.Disk.{Disk, absent}
use Rattle.store.specs.declared.kind.Kind.{Kind}
use Rattle.store.specs.declared.kind.Kind.TheVariants.{Session as SessionKind, Message as MessageKind}
use Rattle.sessions.specs.Session.{Session}
use Rattle.messages.specs.Message.{Message, sessions}
use Rattle.messages.specs.declared.parts.Origin.{Origin}
use Rattle.searches.specs.First.{first_below}
use Rattle.searches.specs.At.{session_at, message_at}
use Rattle.searches.specs.Search.{came_from, is_named, is_target, rank_in, session_count, slots}
use Rattle.acceptance.specs.declared.Refusal.{Refusal}
use Rattle.acceptance.specs.declared.Refusal.TheVariants.{TooSmall, BadRow}

-- what was found of a store's rows: those of a broker with so many sessions, or refused
abbrev pub Verdict : Type 0
Verdict = Result ℕ Refusal

-- the store has numbers for 32 sessions and 256 messages
abbrev pub is_large : Disk → Bool
is_large d = nat_le sessions (d.limit SessionKind) && nat_le slots (d.limit MessageKind)

-- some number below a bound passes
abbrev pub some_below : (ℕ → Bool) → ℕ → Bool
some_below p n = is_some (first_below p n)

-- a session stands at a number
abbrev pub session_stands : Disk → ℕ → Bool
session_stands d s = nat_lt s sessions && is_some (session_at d s)

-- a client identifier stands in an earlier row
abbrev pub client_before : Disk → ℕ → List ℕ → Bool
client_before d n client = some_below (λ j. is_named client (session_at d j)) n

-- what is read of a row that stands offends: nothing, as it is against the layout, or a client identifier that an earlier row has
abbrev pub session_offends : Disk → ℕ → Option Session → Bool
session_offends d n None = true
session_offends d n (Some s) = client_before d n s.client

-- a session row offends
abbrev pub bad_session : Disk → ℕ → Bool
bad_session d n = not (absent d SessionKind n) && session_offends d n (session_at d n)

-- an origin names a missing session
abbrev pub origin_missing : Disk → Option Origin → Bool
origin_missing d None = false
origin_missing d (Some o) = not (session_stands d o.session)

-- a target's session is missing
abbrev pub target_missing : Disk → Message → Bool
target_missing d m = some_below (λ s. is_target s m && not (session_stands d s)) sessions

-- a rank is that of a message
abbrev pub is_rank : ℕ → Option ℕ → Bool
is_rank r None = false
is_rank r (Some s) = s == r

-- a rank stands in an earlier row
abbrev pub rank_before : Disk → ℕ → ℕ → Bool
rank_before d n r = some_below (λ j. is_rank r (rank_in (message_at d j))) n

-- an origin stands in an earlier row; none repeats nothing
abbrev pub origin_before : Disk → ℕ → Option Origin → Bool
origin_before d n None = false
origin_before d n (Some o) = some_below (λ j. came_from o.session o.identifier (message_at d j)) n

-- what is read of a row that stands offends: nothing, as it is against the layout, or a message that names a missing session or
-- repeats an earlier row's rank or origin
abbrev pub message_offends : Disk → ℕ → Option Message → Bool
message_offends d n None = true
message_offends d n (Some m) =
    (origin_missing d m.origin || target_missing d m) || (rank_before d n m.rank || origin_before d n m.origin)

-- a message row offends
abbrev pub bad_message : Disk → ℕ → Bool
bad_message d n = not (absent d MessageKind n) && message_offends d n (message_at d n)

-- the verdict on rows, by the first bad session and the first bad message
abbrev pub judged : Option ℕ → Option ℕ → ℕ → Verdict
judged (Some n) m count = Err (BadRow SessionKind n)
judged None (Some m) count = Err (BadRow MessageKind m)
judged None None count = Ok count

-- the verdict: too small, else the first bad row, else the number of sessions
unfoldable pub accepts : Disk → Verdict
accepts d = cond (is_large d) (judged (first_below (bad_session d) sessions) (first_below (bad_message d) slots) (session_count d)) (Err TooSmall)

-- the store has numbers for 32 sessions and 256 messages
pub record Large (d : Disk) : Type 0 where
  pub for_sessions : sessions ≤ d.limit SessionKind
  pub for_messages : slots ≤ d.limit MessageKind

-- a session stands at a number
abbrev pub Stands : Disk → ℕ → Type 0
Stands d s = (s < sessions) × ((v : Session) × (session_at d s ≡ Some v))

-- the rows are those of a broker: what stands can be read, no client identifier, rank or origin stands twice, and the sessions of
-- origins and targets stand
pub record Acceptable (d : Disk) : Type 0 where
  pub read_sessions : (n : ℕ) → n < sessions → absent d SessionKind n ≡ false → (s : Session) × (session_at d n ≡ Some s)
  pub read_messages : (n : ℕ) → n < slots → absent d MessageKind n ≡ false → (m : Message) × (message_at d n ≡ Some m)
  pub clients :
      (i j : ℕ) (s t : Session) → i < sessions → j < sessions → session_at d i ≡ Some s → session_at d j ≡ Some t
      → s.client ≡ t.client → i ≡ j
  pub ranks :
      (i j : ℕ) (m n : Message) → i < slots → j < slots → message_at d i ≡ Some m → message_at d j ≡ Some n
      → m.rank ≡ n.rank → i ≡ j
  pub origins :
      (i j : ℕ) (m n : Message) (o : Origin) → i < slots → j < slots → message_at d i ≡ Some m → message_at d j ≡ Some n
      → m.origin ≡ Some o → n.origin ≡ Some o → i ≡ j
  pub publishers : (i : ℕ) (m : Message) (o : Origin) → i < slots → message_at d i ≡ Some m → m.origin ≡ Some o → Stands d o.session
  pub receivers : (i s : ℕ) (m : Message) → i < slots → message_at d i ≡ Some m → is_target s m ≡ true → Stands d s

-- how a row offends
pub data Offends (d : Disk) : Kind → ℕ → Type 0 where
  session_layout : (n : ℕ) → absent d SessionKind n ≡ false → session_at d n ≡ None → Offends d SessionKind n
  client_twice :
      (j n : ℕ) (s t : Session) → j < n → session_at d j ≡ Some s → session_at d n ≡ Some t → s.client ≡ t.client
      → Offends d SessionKind n
  message_layout : (n : ℕ) → absent d MessageKind n ≡ false → message_at d n ≡ None → Offends d MessageKind n
  publisher_missing :
      (n : ℕ) (m : Message) (o : Origin) → message_at d n ≡ Some m → m.origin ≡ Some o → (Stands d o.session → ⊥)
      → Offends d MessageKind n
  receiver_missing :
      (n s : ℕ) (m : Message) → message_at d n ≡ Some m → is_target s m ≡ true → (Stands d s → ⊥) → Offends d MessageKind n
  rank_twice :
      (j n : ℕ) (l m : Message) → j < n → message_at d j ≡ Some l → message_at d n ≡ Some m → l.rank ≡ m.rank
      → Offends d MessageKind n
  origin_twice :
      (j n : ℕ) (l m : Message) (o : Origin) → j < n → message_at d j ≡ Some l → message_at d n ≡ Some m → l.origin ≡ Some o
      → m.origin ≡ Some o → Offends d MessageKind n

-- rows come sessions first, then messages, each by number
abbrev pub Earlier : Kind → ℕ → Kind → ℕ → Type 0
Earlier SessionKind i SessionKind j = i < j
Earlier SessionKind i MessageKind j = i < sessions
Earlier MessageKind i SessionKind j = ⊥
Earlier MessageKind i MessageKind j = i < j

-- how many numbers of a kind are looked at
abbrev pub looked : Kind → ℕ
looked SessionKind = sessions
looked MessageKind = slots

-- what a verdict says
abbrev pub Says : Disk → Verdict → Type 0
Says d (Err TooSmall) = Large d → ⊥
Says d (Err (BadRow k n)) = Large d × (n < looked k) × Offends d k n × ((j : Kind) (i : ℕ) → Earlier j i k n → Offends d j i → ⊥)
Says d (Ok c) = Large d × Acceptable d × (c ≡ session_count d)

-- every verdict is true, and rows that are a broker's are accepted
pub record AcceptanceLaw : Type 0 where
  pub says : (d : Disk) → Says d (accepts d)
  pub taken : (d : Disk) → Large d → Acceptable d → accepts d ≡ Ok (session_count d)
