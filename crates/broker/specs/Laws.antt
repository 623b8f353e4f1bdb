-- What holds of every call.
use Rattle.std.specs.Prelude.{◌≡◌, ℕ, ◌<◌, ◌≤◌, Bool, true, false, ◌⊎◌, List, [], ◌∷◌, length, is_ok, Some, Ok, Err, slice_index}
use Rattle.store.specs.Disk.{Disk}
use Rattle.store.specs.declared.kind.Kind.{Kind}
use Rattle.store.specs.declared.kind.Kind.TheVariants.{Session as SessionKind}
use Rattle.writer.specs.Laws.{Bytes}
use Rattle.messages.specs.Message.{Message, lawful_message}
use Rattle.searches.specs.At.{is_free, message_at}
use Rattle.searches.specs.Search.{slots}
use Rattle.acceptance.specs.Acceptance.{Acceptable, Stands, looked}
use Rattle.broker.specs.declared.answer.Refusal.{Refusal}
use Rattle.broker.specs.declared.answer.Refusal.TheVariants.{Down, NoSuchLink, WrongState, TooFewNumbers, BadRow, BadPacket, WrongPacket, RepliesFull, NoRoom, ShortBuffer, StoreGone}
use Rattle.broker.specs.declared.link.Link.{Link}
use Rattle.broker.specs.declared.link.Link.TheVariants.{Free, Opened, Connected, Rejected}
use Rattle.broker.specs.Plan.{After}
use Rattle.broker.specs.State.{Broker, closed, max_replies, stopped}
use Rattle.broker.specs.Step.{Call, Step, restart, open', packet, take, cut, power}

-- ---- one outcome

-- every call comes to something
abbrev pub Total : Type 0
Total = (b : Broker) (d : Disk) (c : Call) → (a : After) × Step b d c a

-- two outcomes of one call are equal, or they give a new session one free number and another
abbrev pub SameOrNumbered : Type 0
SameOrNumbered =
    (b : Broker) (d : Disk) (c : Call) (a a' : After) → Step b d c a → Step b d c a' →
    (a ≡ a') ⊎ ((k k' : ℕ) × (a.answer ≡ Ok k) × (a'.answer ≡ Ok k') × (is_free d SessionKind k ≡ true) × (is_free d SessionKind k' ≡ true))

-- ---- refusals

-- the link of a packet is closed
abbrev pub closed_by : Call → Broker → Broker
closed_by restart b = b
closed_by (open' l) b = b
closed_by (packet l bytes) b = closed b l
closed_by (take l room) b = b
closed_by (cut l) b = b
closed_by (power n) b = b

-- what each refusal leaves: a bad or wrong packet closes its link; rows that are not accepted, and a store that is gone, stop the broker;
-- the others change nothing
abbrev pub left_by : Refusal → Call → Broker → Broker
left_by Down c b = b
left_by NoSuchLink c b = b
left_by WrongState c b = b
left_by TooFewNumbers c b = stopped b
left_by (BadRow kind number) c b = stopped b
left_by (BadPacket f) c b = closed_by c b
left_by WrongPacket c b = closed_by c b
left_by RepliesFull c b = b
left_by NoRoom c b = b
left_by (ShortBuffer needed) c b = b
left_by StoreGone c b = stopped b

-- a refused call changes no row, hands nothing out, and leaves of links, replies, handed bits and next slot what its refusal says
abbrev pub RefusedLeaves : Type 0
RefusedLeaves =
    (b : Broker) (d : Disk) (c : Call) (a : After) (r : Refusal) → Step b d c a → a.answer ≡ Err r →
    (a.broker ≡ left_by r c b) × (a.disk ≡ d) × (a.bytes ≡ [])

-- ---- rows that are not the broker's

-- no call changes a row from number 32 of the sessions or 256 of the messages on, nor a limit
abbrev pub OthersStay : Type 0
OthersStay =
    (b : Broker) (d : Disk) (c : Call) (a : After) → Step b d c a →
    ((k : Kind) (n : ℕ) → looked k ≤ n → a.disk.rows k n ≡ d.rows k n) × ((k : Kind) → a.disk.limit k ≡ d.limit k)

-- ---- what lasts

-- rows hold bytes
abbrev pub AreBytes : Disk → Type 0
AreBytes d = (k : Kind) (n i : ℕ) → slice_index (d.rows k n) i < 256

-- a call's packet is bytes
abbrev pub OfBytes : Call → Type 0
OfBytes restart = Unit {0}
OfBytes (open' l) = Unit {0}
OfBytes (packet l bytes) = Bytes bytes
OfBytes (take l room) = Unit {0}
OfBytes (cut l) = Unit {0}
OfBytes (power n) = Unit {0}

-- a link has a session
abbrev pub is_connected : Link → Bool
is_connected Free = false
is_connected Opened = false
is_connected (Connected s) = true
is_connected (Rejected why) = false

-- broker and rows fit each other: the rows are a broker's and their messages lawful, every link's session has its row,
-- no session has two links, replies wait only where there is a session and are at most 16, and the next slot is one
pub record Fits (b : Broker) (d : Disk) : Type 0 where
  pub rows : Acceptable d
  pub lawful : (k : ℕ) (m : Message) → k < slots → message_at d k ≡ Some m → lawful_message m ≡ true
  pub standing : (l s : ℕ) → b.links l ≡ Connected s → Stands d s
  pub single : (i j s : ℕ) → b.links i ≡ Connected s → b.links j ≡ Connected s → i ≡ j
  pub quiet : (l : ℕ) → is_connected (b.links l) ≡ false → b.replies l ≡ []
  pub few : (l : ℕ) → length (b.replies l) ≤ max_replies
  pub slot : b.next < slots

-- what fits still fits after any call, and a restart that is done makes rows of bytes and the broker fit
pub record FitsLaw : Type 0 where
  pub stays : (b : Broker) (d : Disk) (c : Call) (a : After) → OfBytes c → Step b d c a → Fits b d → Fits a.broker a.disk
  pub begins : (b : Broker) (d : Disk) (a : After) (n : ℕ) → AreBytes d → Step b d restart a → a.answer ≡ Ok n → Fits a.broker a.disk

-- calls one after another on one store
pub data Runs : Broker → Disk → List Call → Broker → Disk → Type 0 where
  none : {b : Broker} {d : Disk} → Runs b d [] b d
  more : {b b' : Broker} {d d' : Disk} {c : Call} {cs : List Call} (a : After) → OfBytes c → Step b d c a → Runs a.broker a.disk cs b' d' → Runs b d (c ∷ cs) b' d'

-- once a restart was done on a store of bytes, every later restart on it is done
abbrev pub RestartsAgain : Type 0
RestartsAgain =
    (b b' : Broker) (d d' : Disk) (cs : List Call) (a a' : After) (n : ℕ) → AreBytes d → Step b d restart a → a.answer ≡ Ok n →
    Runs a.broker a.disk cs b' d' → Step b' d' restart a' → is_ok a'.answer ≡ true
