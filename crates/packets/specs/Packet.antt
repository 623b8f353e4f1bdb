-- What a packet says: the bytes themselves in place of borrowed parts.
use Rattle.std.specs.Prelude.{ℕ, Bool, List, Ok, Err, Option, Result}
use Rattle.topics.specs.declared.qos.Qos.{Qos}
use Rattle.packets.specs.declared.packet.Packet.{Packet}
use Rattle.packets.specs.declared.packet.Packet.TheVariants.{Connect, ConnAck, Publish, PubAck, PubRec, PubRel, PubComp, Subscribe, SubAck, Unsubscribe, UnsubAck, PingReq, PingResp, Disconnect}
use Rattle.packets.specs.declared.packet.ReadError.{ReadError}
use Rattle.packets.specs.Filters.{Entry, entries_of}

pub data Content : Type 0 where
  -- client identifier and its place
  connect : List ℕ → ℕ → Content
  -- session present and return code
  connack : Bool → ℕ → Content
  -- DUP, QoS, topic and its place, identifier, payload and its place
  publish : Bool → Qos → List ℕ → ℕ → Option ℕ → List ℕ → ℕ → Content
  puback : ℕ → Content
  pubrec : ℕ → Content
  pubrel : ℕ → Content
  pubcomp : ℕ → Content
  -- identifier and filters
  subscribe : ℕ → List Entry → Content
  -- identifier and codes
  suback : ℕ → List ℕ → Content
  -- identifier and filters
  unsubscribe : ℕ → List Entry → Content
  unsuback : ℕ → Content
  pingreq : Content
  pingresp : Content
  disconnect : Content

-- what a packet of the code says
abbrev pub content : Packet → Content
content (Connect client at) = connect client.now at
content (ConnAck present code) = connack present code
content (Publish dup qos topic topic-at id payload payload-at) = publish dup qos topic.now topic-at id payload.now payload-at
content (PubAck id) = puback id
content (PubRec id) = pubrec id
content (PubRel id) = pubrel id
content (PubComp id) = pubcomp id
content (Subscribe id filters) = subscribe id (entries_of filters)
content (SubAck id codes) = suback id codes.now
content (Unsubscribe id filters) = unsubscribe id (entries_of filters)
content (UnsubAck id) = unsuback id
content PingReq = pingreq
content PingResp = pingresp
content Disconnect = disconnect

-- what a reading came to: a packet's content, another level, or a bad field with its place
abbrev pub outcome : Result Packet ReadError → Result Content ReadError
outcome (Ok p) = Ok (content p)
outcome (Err e) = Err e
