-- What is looked for among the rows of a broker.
use Rattle.std.specs.Prelude.{ℕ, ◌/◌, ◌%◌, ◌^◌, Bool, false, cond, ◌&&◌, List, is_some, Some, None, Option, ◌==◌, nat_lt, slice_index, slice_index_or}
use Rattle.std.specs.Str.{bytes_eq}
use Rattle.store.specs.Disk.{Disk}
use Rattle.store.specs.declared.kind.Kind.TheVariants.{Session as SessionKind, Message as MessageKind}
use Rattle.sessions.specs.Session.{Session}
use Rattle.messages.specs.Message.{Message, sessions}
use Rattle.messages.specs.declared.parts.Origin.{Origin}
use Rattle.searches.specs.First.{first_below, first_from, lowest, highest, count_below}
use Rattle.searches.specs.At.{session_at, message_at, is_free}

-- messages have slots below this
abbrev pub slots : ℕ
slots = 256

-- a session has this client identifier
abbrev pub is_named : List ℕ → Option Session → Bool
is_named client None = false
is_named client (Some s) = bytes_eq s.client client

-- an origin is this session's with this packet identifier
abbrev pub is_origin : ℕ → ℕ → Option Origin → Bool
is_origin session id None = false
is_origin session id (Some o) = o.session == session && o.identifier == id

-- a message has this origin
abbrev pub came_from : ℕ → ℕ → Option Message → Bool
came_from session id None = false
came_from session id (Some m) = is_origin session id m.origin

-- the rank of a message
abbrev pub rank_in : Option Message → Option ℕ
rank_in None = None
rank_in (Some m) = Some m.rank

-- a session is a target of a message
abbrev pub is_target : ℕ → Message → Bool
is_target session m = is_some (slice_index_or m.targets session None)

-- the rank of a message that is owed to a session
abbrev pub rank_owed : ℕ → Option Message → Option ℕ
rank_owed session None = None
rank_owed session (Some m) = cond (is_target session m) (Some m.rank) None

-- the same, of a slot that was not handed out
abbrev pub rank_left : Disk → (ℕ → Bool) → ℕ → ℕ → Option ℕ
rank_left d handed session k = cond (handed k) None (rank_owed session (message_at d k))

-- a bit for each session says of each slot to whom it was handed; there are no bits for sessions from 32 on
abbrev pub handed_to : List ℕ → ℕ → ℕ → Bool
handed_to masks session k = nat_lt session sessions && slice_index masks k / 2 ^ session % 2 == 1

-- the session with a client identifier
abbrev pub session_of_client : Disk → List ℕ → Option ℕ
session_of_client d client = first_below (λ k. is_named client (session_at d k)) sessions

-- the first number without a session row
abbrev pub free_session : Disk → Option ℕ
free_session d = first_below (is_free d SessionKind) sessions

-- the first free slot from a given one, round
abbrev pub free_slot : Disk → ℕ → Option ℕ
free_slot d start = first_from (is_free d MessageKind) start slots

-- the slot of the message with an origin
abbrev pub slot_of_origin : Disk → ℕ → ℕ → Option ℕ
slot_of_origin d session id = first_below (λ k. came_from session id (message_at d k)) slots

-- the highest rank of a message, 0 where there is none
abbrev pub highest_rank : Disk → ℕ
highest_rank d = highest (λ k. rank_in (message_at d k)) slots

-- the slot of the lowest-ranked message that is owed to a session, among those that were not handed out
abbrev pub next_target : Disk → (ℕ → Bool) → ℕ → Option ℕ
next_target d handed session = lowest (rank_left d handed session) slots

-- how many sessions there are
abbrev pub session_count : Disk → ℕ
session_count d = count_below (λ k. is_some (session_at d k)) sessions
