-- What each call of the broker does.
use Rattle.std.specs.Prelude.{◌≡◌, ℕ, cond, List, [], ◌∷◌, Ok, Err, Result, nat_lt}
use Rattle.store.specs.Disk.{Disk, powered}
use Rattle.packets.specs.declared.packet.ReadError.{ReadError}
use Rattle.packets.specs.declared.packet.ReadError.TheVariants.{Level as OtherLevel, Bad}
use Rattle.packets.specs.Packet.{Content, connect, connack, publish, puback, pubrec, pubrel, pubcomp, subscribe, suback, unsubscribe, unsuback, pingreq, pingresp, disconnect}
use Rattle.packets.specs.Reads.{reads}
use Rattle.acceptance.specs.Acceptance.{Verdict, accepts}
use Rattle.acceptance.specs.declared.Refusal.TheVariants.{BadRow as OffendingRow, TooSmall}
use Rattle.broker.specs.declared.answer.Refusal.TheVariants.{Down, NoSuchLink, WrongState, TooFewNumbers, BadRow, BadPacket, WrongPacket}
use Rattle.broker.specs.declared.link.Link.{Link}
use Rattle.broker.specs.declared.link.Link.TheVariants.{Free, Opened, Connected, Rejected}
use Rattle.broker.specs.declared.link.Rejection.TheVariants.{Level}
use Rattle.broker.specs.Connect.{Chosen, connect_plan, reject}
use Rattle.broker.specs.Deliver.{ack_plan, acknowledged, complete_plan, outgoing, receive_plan, take_plan}
use Rattle.broker.specs.Plan.{After, Plan, done, refuse, settle}
use Rattle.broker.specs.Publish.{due, id_of, publish_plan, release_plan}
use Rattle.broker.specs.State.{Broker, closed, link_count, queued, restarted, stopped, with_link}
use Rattle.broker.specs.Subscribe.{subscribe_plan, unsubscribe_plan}

-- the calls: restart; open a link; a packet's bytes on a link; take what goes out next on a link, into so much room;
-- cut a link; power for so many writes
pub data Call : Type 0 where
  restart : Call
  open' : ℕ → Call
  packet : ℕ → List ℕ → Call
  take : ℕ → ℕ → Call
  cut : ℕ → Call
  power : ℕ → Call

-- restart: the rows are judged; if they are acceptable all links are free, else the broker is down
abbrev pub restart_plan : Broker → Verdict → Plan
restart_plan b (Ok count) = done count [] [] restarted
restart_plan b (Err TooSmall) = refuse TooFewNumbers (stopped b)
restart_plan b (Err (OffendingRow kind number)) = refuse (BadRow kind number) (stopped b)

-- open: only a free link
abbrev pub open_plan : Broker → ℕ → Link → Plan
open_plan b l Free = done 0 [] [] (with_link b l Opened)
open_plan b l Opened = refuse WrongState b
open_plan b l (Connected s) = refuse WrongState b
open_plan b l (Rejected why) = refuse WrongState b

-- cut: any link that is not free
abbrev pub cut_plan : Broker → ℕ → Link → Plan
cut_plan b l Free = refuse WrongState b
cut_plan b l Opened = done 0 [] [] (closed b l)
cut_plan b l (Connected s) = done 0 [] [] (closed b l)
cut_plan b l (Rejected why) = done 0 [] [] (closed b l)

-- a packet that is not for the broker, or not now, closes the link
abbrev pub wrong : Broker → ℕ → Plan
wrong b l = refuse WrongPacket (closed b l)

-- on an opened link: only CONNECT
abbrev pub opened_plan : Broker → Disk → ℕ → ℕ → Content → Plan
opened_plan b d k l (connect client at) = connect_plan b d k l client
opened_plan b d k l (connack present code) = wrong b l
opened_plan b d k l (publish dup qos topic topic-at id payload payload-at) = wrong b l
opened_plan b d k l (puback id) = wrong b l
opened_plan b d k l (pubrec id) = wrong b l
opened_plan b d k l (pubrel id) = wrong b l
opened_plan b d k l (pubcomp id) = wrong b l
opened_plan b d k l (subscribe id es) = wrong b l
opened_plan b d k l (suback id codes) = wrong b l
opened_plan b d k l (unsubscribe id es) = wrong b l
opened_plan b d k l (unsuback id) = wrong b l
opened_plan b d k l pingreq = wrong b l
opened_plan b d k l pingresp = wrong b l
opened_plan b d k l disconnect = wrong b l

-- on a link of session s: whatever a connected client may send
abbrev pub connected_plan : Broker → Disk → ℕ → ℕ → Content → Plan
connected_plan b d l s (connect client at) = wrong b l
connected_plan b d l s (connack present code) = wrong b l
connected_plan b d l s (publish dup qos topic topic-at id payload payload-at) = publish_plan b d l s qos topic (id_of id) payload
connected_plan b d l s (puback id) = ack_plan b s (acknowledged d s id)
connected_plan b d l s (pubrec id) = receive_plan b l s (acknowledged d s id)
connected_plan b d l s (pubrel id) = release_plan b d l s id
connected_plan b d l s (pubcomp id) = complete_plan b s (acknowledged d s id)
connected_plan b d l s (subscribe id es) = subscribe_plan b d l s id es
connected_plan b d l s (suback id codes) = wrong b l
connected_plan b d l s (unsubscribe id es) = unsubscribe_plan b d l s id es
connected_plan b d l s (unsuback id) = wrong b l
connected_plan b d l s pingreq = due b l (done 0 [] [] (queued b l (pingresp ∷ [])))
connected_plan b d l s pingresp = wrong b l
connected_plan b d l s disconnect = done 0 [] [] (closed b l)

-- on an opened link, what was read: a CONNECT of another level is rejected, a bad field closes the link
abbrev pub on_opened : Broker → Disk → ℕ → ℕ → Result Content ReadError → Plan
on_opened b d k l (Ok c) = opened_plan b d k l c
on_opened b d k l (Err OtherLevel) = reject b l Level
on_opened b d k l (Err (Bad f)) = refuse (BadPacket f) (closed b l)

-- on a link of session s, what was read: a CONNECT is wrong whatever its level
abbrev pub on_connected : Broker → Disk → ℕ → ℕ → Result Content ReadError → Plan
on_connected b d l s (Ok c) = connected_plan b d l s c
on_connected b d l s (Err OtherLevel) = wrong b l
on_connected b d l s (Err (Bad f)) = refuse (BadPacket f) (closed b l)

-- packet: goes by the link's state and by what was read
abbrev pub packet_plan : Broker → Disk → ℕ → ℕ → List ℕ → Link → Plan
packet_plan b d k l bytes Free = refuse WrongState b
packet_plan b d k l bytes Opened = on_opened b d k l (reads bytes)
packet_plan b d k l bytes (Connected s) = on_connected b d l s (reads bytes)
packet_plan b d k l bytes (Rejected why) = refuse WrongState b

-- take: only where something may go out
abbrev pub take_from : Broker → Disk → ℕ → ℕ → Link → Plan
take_from b d l room Free = refuse WrongState b
take_from b d l room Opened = refuse WrongState b
take_from b d l room (Connected s) = take_plan b l room (outgoing b d l)
take_from b d l room (Rejected why) = take_plan b l room (outgoing b d l)

-- a call on a link: the broker must serve, and the link's number be lawful
abbrev pub on_link_of : Broker → ℕ → Plan → Plan
on_link_of b l p = cond b.up (cond (nat_lt l link_count) p (refuse NoSuchLink b)) (refuse Down b)

-- what a call decides, if k is the number of a new session
abbrev pub plan : ℕ → Broker → Disk → Call → Plan
plan k b d restart = restart_plan b (accepts d)
plan k b d (open' l) = on_link_of b l (open_plan b l (b.links l))
plan k b d (packet l bytes) = on_link_of b l (packet_plan b d k l bytes (b.links l))
plan k b d (take l room) = on_link_of b l (take_from b d l room (b.links l))
plan k b d (cut l) = on_link_of b l (cut_plan b l (b.links l))
plan k b d (power n) = done 0 [] [] b

-- the disk that a call works on: power sets the writes left
abbrev pub disked : Disk → Call → Disk
disked d restart = d
disked d (open' l) = d
disked d (packet l bytes) = d
disked d (take l room) = d
disked d (cut l) = d
disked d (power n) = powered d n

-- what a call comes to, if k is the number of a new session
unfoldable pub step : ℕ → Broker → Disk → Call → After
step k b d c = settle b (disked d c) (plan k b d c)

-- what a call may come to: a new session gets any free number
abbrev pub Step : Broker → Disk → Call → After → Type 0
Step b d c a = (k : ℕ) × Chosen d k × (a ≡ step k b d c)
