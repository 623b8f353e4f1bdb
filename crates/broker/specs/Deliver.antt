-- Messages handed out to a session, and its acknowledgements.
use Rattle.std.specs.Prelude.{ℕ, ◌+◌, ◌-◌, true, false, cond, ◌&&◌, List, [], ◌∷◌, length, Some, None, Option, nat_le, nat_lt}
use Rattle.store.specs.Disk.{Disk}
use Rattle.topics.specs.declared.qos.Qos.{Qos}
use Rattle.topics.specs.declared.qos.Qos.TheVariants.{AtMostOnce, AtLeastOnce, ExactlyOnce}
use Rattle.packets.specs.Bytes.{bytes_of}
use Rattle.packets.specs.Packet.{Content, connack, publish, pubrel}
use Rattle.messages.specs.Message.{Message}
use Rattle.messages.specs.declared.parts.State.{State}
use Rattle.messages.specs.declared.parts.State.TheVariants.{Waiting, Sent, Released}
use Rattle.messages.specs.declared.parts.Target.{Target}
use Rattle.message_edits.specs.Edit.{target_of, with_target}
use Rattle.searches.specs.At.{message_at}
use Rattle.searches.specs.Search.{next_target, slots}
use Rattle.broker.specs.declared.answer.Refusal.TheVariants.{ShortBuffer}
use Rattle.broker.specs.declared.link.Link.{Link}
use Rattle.broker.specs.declared.link.Link.TheVariants.{Free, Opened, Connected, Rejected}
use Rattle.broker.specs.declared.link.Rejection.{Rejection}
use Rattle.broker.specs.Link.{return_code}
use Rattle.broker.specs.Plan.{Plan, refuse, done, Write}
use Rattle.broker.specs.Publish.{due, keep}
use Rattle.broker.specs.State.{Broker, closed, handed_out, queued, with_replies}

-- ---- what goes out next on a link

-- nothing; the CONNACK of a rejected link; a reply, and those behind it; or a slot's message to a session
pub data Outgoing : Type 0 where
  nothing : Outgoing
  rejection : Rejection → Outgoing
  reply : Content → List Content → Outgoing
  delivery : ℕ → ℕ → Message → Target → Outgoing

abbrev pub delivered : ℕ → ℕ → Message → Option Target → Outgoing
delivered s k m None = nothing
delivered s k m (Some t) = delivery s k m t

abbrev pub in_slot : ℕ → ℕ → Option Message → Outgoing
in_slot s k None = nothing
in_slot s k (Some m) = delivered s k m (target_of m s)

abbrev pub from_slot : Disk → ℕ → Option ℕ → Outgoing
from_slot d s None = nothing
from_slot d s (Some k) = in_slot s k (message_at d k)

-- to a session: the oldest reply, else the lowest-ranked message not yet handed out on this connection
abbrev pub to_session : Broker → Disk → ℕ → List Content → Outgoing
to_session b d s (r ∷ rs) = reply r rs
to_session b d s [] = from_slot d s (next_target d (λ k. b.handed k s) s)

abbrev pub on_link : Broker → Disk → ℕ → Link → Outgoing
on_link b d l Free = nothing
on_link b d l Opened = nothing
on_link b d l (Connected s) = to_session b d s (b.replies l)
on_link b d l (Rejected why) = rejection why

-- what goes out next on this link
unfoldable pub outgoing : Broker → Disk → ℕ → Outgoing
outgoing b d l = on_link b d l (b.links l)

-- the identifier of a slot's message on its way out
abbrev pub out_id : ℕ → ℕ
out_id k = k + 1

-- a message at its first try, or again with DUP; a released one is a PUBREL
abbrev pub sent_as : ℕ → Message → Qos → State → Content
sent_as k m AtMostOnce state = publish false AtMostOnce m.topic 0 None m.payload 0
sent_as k m AtLeastOnce Waiting = publish false AtLeastOnce m.topic 0 (Some (out_id k)) m.payload 0
sent_as k m AtLeastOnce Sent = publish true AtLeastOnce m.topic 0 (Some (out_id k)) m.payload 0
sent_as k m AtLeastOnce Released = pubrel (out_id k)
sent_as k m ExactlyOnce Waiting = publish false ExactlyOnce m.topic 0 (Some (out_id k)) m.payload 0
sent_as k m ExactlyOnce Sent = publish true ExactlyOnce m.topic 0 (Some (out_id k)) m.payload 0
sent_as k m ExactlyOnce Released = pubrel (out_id k)

-- the write before a message is handed out: at QoS 0 the target is finished, else waiting becomes sent
abbrev pub marked : ℕ → ℕ → Message → Qos → State → List Write
marked s k m AtMostOnce state = keep k (with_target m s None)
marked s k m AtLeastOnce Waiting = keep k (with_target m s (Some (record { qos = AtLeastOnce; state = Sent })))
marked s k m AtLeastOnce Sent = []
marked s k m AtLeastOnce Released = []
marked s k m ExactlyOnce Waiting = keep k (with_target m s (Some (record { qos = ExactlyOnce; state = Sent })))
marked s k m ExactlyOnce Sent = []
marked s k m ExactlyOnce Released = []

-- a packet handed out once its writes are taken; too short a buffer is found before any write
abbrev pub hand_out : Broker → ℕ → Content → List Write → Broker → Plan
hand_out b room c ws b' =
    cond (nat_lt room (length (bytes_of c))) (refuse (ShortBuffer (length (bytes_of c))) b)
    (done (length (bytes_of c)) (bytes_of c) ws b')

-- take: what goes out next; a rejected link is then free
abbrev pub take_plan : Broker → ℕ → ℕ → Outgoing → Plan
take_plan b l room nothing = done 0 [] [] b
take_plan b l room (rejection why) = hand_out b room (connack false (return_code why)) [] (closed b l)
take_plan b l room (reply r rs) = hand_out b room r [] (with_replies b l rs)
take_plan b l room (delivery s k m t) = hand_out b room (sent_as k m t.qos t.state) (marked s k m t.qos t.state) (handed_out b k s)

-- ---- acknowledgements

-- a session's target in a slot, with the message
pub data Found : Type 0 where
  missing : Found
  found : ℕ → Message → Target → Found

abbrev pub found_in : ℕ → Message → Option Target → Found
found_in k m None = missing
found_in k m (Some t) = found k m t

abbrev pub found_at : ℕ → ℕ → Option Message → Found
found_at s k None = missing
found_at s k (Some m) = found_in k m (target_of m s)

-- the session's target with this identifier: identifiers 1 to 256 stand for the slots
unfoldable pub acknowledged : Disk → ℕ → ℕ → Found
acknowledged d s id = cond (nat_lt 0 id && nat_le id slots) (found_at s (id - 1) (message_at d (id - 1))) missing

-- no effect
abbrev pub ignore : Broker → Plan
ignore b = done 0 [] [] b

-- PUBACK finishes a sent QoS 1 target
abbrev pub acked : Broker → ℕ → ℕ → Message → Qos → State → Plan
acked b s k m AtMostOnce state = ignore b
acked b s k m AtLeastOnce Waiting = ignore b
acked b s k m AtLeastOnce Sent = done 0 [] (keep k (with_target m s None)) b
acked b s k m AtLeastOnce Released = ignore b
acked b s k m ExactlyOnce state = ignore b

abbrev pub ack_plan : Broker → ℕ → Found → Plan
ack_plan b s missing = ignore b
ack_plan b s (found k m t) = acked b s k m t.qos t.state

-- PUBREC releases a sent QoS 2 target with one write; a released one needs none; PUBREL follows in both cases
abbrev pub received : Broker → ℕ → ℕ → ℕ → Message → Qos → State → Plan
received b l s k m AtMostOnce state = ignore b
received b l s k m AtLeastOnce state = ignore b
received b l s k m ExactlyOnce Waiting = ignore b
received b l s k m ExactlyOnce Sent =
    due b l
    (done 0 [] (keep k (with_target m s (Some (record { qos = ExactlyOnce; state = Released })))) (queued b l (pubrel (out_id k) ∷ [])))
received b l s k m ExactlyOnce Released = due b l (done 0 [] [] (queued b l (pubrel (out_id k) ∷ [])))

abbrev pub receive_plan : Broker → ℕ → ℕ → Found → Plan
receive_plan b l s missing = ignore b
receive_plan b l s (found k m t) = received b l s k m t.qos t.state

-- PUBCOMP finishes a released target
abbrev pub completed : Broker → ℕ → ℕ → Message → Qos → State → Plan
completed b s k m AtMostOnce state = ignore b
completed b s k m AtLeastOnce state = ignore b
completed b s k m ExactlyOnce Waiting = ignore b
completed b s k m ExactlyOnce Sent = ignore b
completed b s k m ExactlyOnce Released = done 0 [] (keep k (with_target m s None)) b

abbrev pub complete_plan : Broker → ℕ → Found → Plan
complete_plan b s missing = ignore b
complete_plan b s (found k m t) = completed b s k m t.qos t.state
