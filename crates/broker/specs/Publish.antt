-- A PUBLISH that comes, and the PUBREL that ends it.
use Rattle.std.specs.Prelude.{ℕ, ◌+◌, Bool, cond, ◌||◌, List, [], ◌∷◌, map, Some, None, Option, ◌==◌, nat_le}
use Rattle.std.specs.List.{range_with_len}
use Rattle.store.specs.Disk.{Disk}
use Rattle.store.specs.declared.kind.Kind.TheVariants.{Message as message}
use Rattle.topics.specs.Qos.{lesser}
use Rattle.topics.specs.Subscription.{granted}
use Rattle.topics.specs.declared.qos.Qos.{Qos}
use Rattle.topics.specs.declared.qos.Qos.TheVariants.{AtMostOnce, AtLeastOnce, ExactlyOnce}
use Rattle.packets.specs.Packet.{Content, puback, pubrec, pubcomp}
use Rattle.sessions.specs.Session.{Session}
use Rattle.messages.specs.Message.{Message, encode, sessions}
use Rattle.messages.specs.Target.{some_target}
use Rattle.messages.specs.declared.parts.Origin.{Origin}
use Rattle.message_edits.specs.Edit.{is_over, new_message, without_origin}
use Rattle.searches.specs.At.{session_at, message_at}
use Rattle.searches.specs.Search.{free_slot, highest_rank, slot_of_origin}
use Rattle.broker.specs.declared.answer.Refusal.TheVariants.{RepliesFull, NoRoom}
use Rattle.broker.specs.Plan.{Plan, refuse, done, Write, write, erase}
use Rattle.broker.specs.State.{Broker, filled, is_full, is_live, queued}

-- at quality of service 0 a message goes only to sessions that are connected
abbrev pub unless_absent : Bool → Qos → Option Qos
unless_absent live AtMostOnce = cond live (Some AtMostOnce) None
unless_absent live AtLeastOnce = Some AtLeastOnce
unless_absent live ExactlyOnce = Some ExactlyOnce

-- the lesser of the message's quality of service and the highest that the filters grant
abbrev pub lessened : Bool → Qos → Option Qos → Option Qos
lessened live q None = None
lessened live q (Some g) = unless_absent live (lesser g q)

abbrev pub owed_to : Bool → Qos → List ℕ → Option Session → Option Qos
owed_to live q topic None = None
owed_to live q topic (Some s) = lessened live q (granted s.filters topic)

-- the quality of service with which a session gets a message, or none where it does not
unfoldable pub owed : Broker → Disk → Qos → List ℕ → ℕ → Option Qos
owed b d q topic s = owed_to (is_live b s) q topic (session_at d s)

-- who gets a message: by session, with which quality of service
unfoldable pub audience : Broker → Disk → Qos → List ℕ → List (Option Qos)
audience b d q topic = map (owed b d q topic) (range_with_len 0 sessions)

-- the highest rank that a row can have
abbrev pub last_rank : ℕ
last_rank = 4294967295

-- a message that comes: its rank is above all present, and all its targets wait
abbrev pub incoming : Broker → Disk → Option Origin → Qos → List ℕ → List ℕ → Message
incoming b d origin q topic payload = new_message (highest_rank d + 1) origin (audience b d q topic) topic payload

-- a new row in a free slot, then the replies; refused where a slot, a free row or a rank is lacking
abbrev pub store_at : Broker → Disk → ℕ → Message → List Content → Option ℕ → Plan
store_at b d l m rs None = refuse NoRoom b
store_at b d l m rs (Some k) =
    cond (d.free == 0 || nat_le last_rank (highest_rank d)) (refuse NoRoom b)
    (done 0 [] (write message k (encode m) ∷ []) (queued (filled b k) l rs))

abbrev pub store : Broker → Disk → ℕ → Message → List Content → Plan
store b d l m rs = store_at b d l m rs (free_slot d b.next)

-- a reply is due: refused where no more can wait
abbrev pub due : Broker → ℕ → Plan → Plan
due b l p = cond (is_full b l) (refuse RepliesFull b) p

-- a message without an origin is kept only if it has a target
abbrev pub store_if_owed : Broker → Disk → ℕ → Message → List Content → Plan
store_if_owed b d l m rs = cond (some_target m.targets) (store b d l m rs) (done 0 [] [] (queued b l rs))

-- a QoS 2 message whose identifier is open for the session is only acknowledged; else it gets its row first
abbrev pub admit : Broker → Disk → ℕ → Message → ℕ → Option ℕ → Plan
admit b d l m id (Some k) = done 0 [] [] (queued b l (pubrec id ∷ []))
admit b d l m id None = store b d l m (pubrec id ∷ [])

abbrev pub id_of : Option ℕ → ℕ
id_of None = 0
id_of (Some id) = id

-- PUBLISH on a link of the session: no reply at QoS 0, PUBACK at 1, PUBREC at 2
unfoldable pub publish_plan : Broker → Disk → ℕ → ℕ → Qos → List ℕ → ℕ → List ℕ → Plan
publish_plan b d l s AtMostOnce topic id payload = store_if_owed b d l (incoming b d None AtMostOnce topic payload) []
publish_plan b d l s AtLeastOnce topic id payload =
    due b l (store_if_owed b d l (incoming b d None AtLeastOnce topic payload) (puback id ∷ []))
publish_plan b d l s ExactlyOnce topic id payload =
    due b l
    (admit b d l (incoming b d (Some (record { session = s; identifier = id })) ExactlyOnce topic payload) id (slot_of_origin d s id))

-- finishing: the row of what is left of a message, or no row where neither origin nor target is left; one write
abbrev pub keep : ℕ → Message → List Write
keep k m = cond (is_over m) (erase message k ∷ []) (write message k (encode m) ∷ [])

-- the origin of a slot's message finished
abbrev pub end_origin_of : ℕ → Option Message → List Write
end_origin_of k None = []
end_origin_of k (Some m) = keep k (without_origin m)

abbrev pub end_origin : Disk → Option ℕ → List Write
end_origin d None = []
end_origin d (Some k) = end_origin_of k (message_at d k)

-- PUBREL: the origin is finished if it is there, and PUBCOMP comes in any case
unfoldable pub release_plan : Broker → Disk → ℕ → ℕ → ℕ → Plan
release_plan b d l s id = due b l (done 0 [] (end_origin d (slot_of_origin d s id)) (queued b l (pubcomp id ∷ [])))
