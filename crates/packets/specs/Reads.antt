-- What bytes are read as: field by field, stopping at the first bad one.
use Rattle.std.specs.Prelude.{ℕ, zero, suc, ◌+◌, ◌/◌, ◌%◌, Bool, true, false, cond, ◌||◌, List, [], ◌∷◌, length, Some, None, Ok, Err, Option, Result, ◌==◌, nat_le}
use Rattle.std.specs.Str.{bytes_eq}
use Rattle.frame.specs.declared.field.BadField.{BadField}
use Rattle.frame.specs.declared.field.Field.TheVariants.{FirstByte, ProtocolName, Flags, ClientIdentifier, TopicName, QosOrCode, Payload, End}
use Rattle.frame.specs.declared.first_byte.PacketType.{PacketType}
use Rattle.frame.specs.declared.first_byte.PacketType.TheVariants.{Connect, ConnAck, Publish, PubAck, PubRec, PubRel, PubComp, Subscribe, SubAck, Unsubscribe, UnsubAck, PingReq, PingResp, Disconnect}
use Rattle.frame.specs.Number.{number_in}
use Rattle.frame.specs.Parts.{Told, parts_in}
use Rattle.topics.specs.declared.qos.Qos.{Qos}
use Rattle.topics.specs.declared.qos.Qos.TheVariants.{AtMostOnce, AtLeastOnce, ExactlyOnce}
use Rattle.topics.specs.Qos.{qos_of}
use Rattle.topics.specs.Text.{is_text}
use Rattle.topics.specs.Names.{is_topic_name}
use Rattle.packets.specs.declared.packet.ReadError.{ReadError}
use Rattle.packets.specs.declared.packet.ReadError.TheVariants.{Level, Bad}
use Rattle.packets.specs.Fields.{bad, missing, onward, ended, byte_in, identifier_in, only_identifier, cut, text_in, past}
use Rattle.packets.specs.Filters.{Entry, some_filters}
use Rattle.packets.specs.Packet.{Content, connect, connack, publish, puback, pubrec, pubrel, pubcomp, subscribe, suback, unsubscribe, unsuback, pingreq, pingresp, disconnect}

-- ---- CONNECT: protocol name, level, flags, keep-alive, client identifier

-- the protocol's name as a text: 0, 4 and "MQTT"
abbrev pub protocol_name : List ℕ
protocol_name = 0 ∷ 4 ∷ 77 ∷ 81 ∷ 84 ∷ 84 ∷ []

-- the client identifier follows the text rule, and the packet ends behind it
unfoldable pub client_in : List ℕ → ℕ → Result Content ReadError
client_in bs at = onward (λ p. ended p.1 (past p.0 at) (connect p.0 at)) (text_in ClientIdentifier is_text bs at)

-- the two bytes of the keep-alive have no effect
abbrev pub after_keep_alive : List ℕ → ℕ → Option (ℕ × List ℕ) → Result Content ReadError
after_keep_alive bs at None = missing bs at
after_keep_alive bs at (Some p) = client_in p.1 (at + 2)

-- the keep-alive
unfoldable pub keep_alive_in : List ℕ → ℕ → Result Content ReadError
keep_alive_in bs at = after_keep_alive bs at (number_in bs)

-- all flags are 0
abbrev pub after_flags : List ℕ → ℕ → Option (ℕ × List ℕ) → Result Content ReadError
after_flags bs at None = missing bs at
after_flags bs at (Some p) = cond (p.0 == 0) (keep_alive_in p.1 (at + 1)) (bad Flags at)

-- the flags
unfoldable pub flags_in : List ℕ → ℕ → Result Content ReadError
flags_in bs at = after_flags bs at (byte_in bs)

-- another level than 4 ends the reading, whatever follows
abbrev pub after_level : List ℕ → ℕ → Option (ℕ × List ℕ) → Result Content ReadError
after_level bs at None = missing bs at
after_level bs at (Some p) = cond (p.0 == 4) (flags_in p.1 (at + 1)) (Err Level)

-- the level
unfoldable pub level_in : List ℕ → ℕ → Result Content ReadError
level_in bs at = after_level bs at (byte_in bs)

-- six bytes, all of them there, that are the protocol's name
abbrev pub after_name : List ℕ → ℕ → Option (List ℕ × List ℕ) → Result Content ReadError
after_name bs at None = missing bs at
after_name bs at (Some p) = cond (bytes_eq p.0 protocol_name) (level_in p.1 (at + 6)) (bad ProtocolName at)

unfoldable pub connect_in : List ℕ → ℕ → Result Content ReadError
connect_in bs at = after_name bs at (cut 6 bs)

-- ---- CONNACK: session present, return code

-- a return code is 0 to 5
abbrev pub after_present : Bool → List ℕ → ℕ → Option (ℕ × List ℕ) → Result Content ReadError
after_present present bs at None = missing bs at
after_present present bs at (Some p) = cond (nat_le p.0 5) (ended p.1 (at + 1) (connack present p.0)) (bad QosOrCode at)

-- the return code
unfoldable pub return_code_in : Bool → List ℕ → ℕ → Result Content ReadError
return_code_in present bs at = after_present present bs at (byte_in bs)

-- session present is 0 or 1
abbrev pub after_first : List ℕ → ℕ → Option (ℕ × List ℕ) → Result Content ReadError
after_first bs at None = missing bs at
after_first bs at (Some p) = cond (nat_le p.0 1) (return_code_in (p.0 == 1) p.1 (at + 1)) (bad Flags at)

unfoldable pub connack_in : List ℕ → ℕ → Result Content ReadError
connack_in bs at = after_first bs at (byte_in bs)

-- ---- PUBLISH: topic, identifier if QoS is above 0, payload

-- the payload: what is left, at most 256 bytes
unfoldable pub payload_in : Bool → Qos → List ℕ → ℕ → Option ℕ → List ℕ → ℕ → Result Content ReadError
payload_in dup qos topic topic-at id bs at = cond (nat_le (length bs) 256) (Ok (publish dup qos topic topic-at id bs at)) (bad Payload at)

-- an identifier and the payload
unfoldable pub numbered_in : Bool → Qos → List ℕ → ℕ → List ℕ → ℕ → Result Content ReadError
numbered_in dup qos topic topic-at bs at =
    onward (λ p. payload_in dup qos topic topic-at (Some p.0) p.1 (at + 2)) (identifier_in bs at)

-- behind the topic: an identifier unless QoS is 0
abbrev pub after_topic : Bool → Qos → List ℕ → ℕ → List ℕ → ℕ → Result Content ReadError
after_topic dup AtMostOnce topic topic-at bs at = payload_in dup AtMostOnce topic topic-at None bs at
after_topic dup AtLeastOnce topic topic-at bs at = numbered_in dup AtLeastOnce topic topic-at bs at
after_topic dup ExactlyOnce topic topic-at bs at = numbered_in dup ExactlyOnce topic topic-at bs at

-- the topic
unfoldable pub topic_in : Bool → Qos → List ℕ → ℕ → Result Content ReadError
topic_in dup qos bs at = onward (λ p. after_topic dup qos p.0 at p.1 (past p.0 at)) (text_in TopicName is_topic_name bs at)

-- QoS 3 stands in no legal first byte
abbrev pub with_qos : Bool → List ℕ → ℕ → Option Qos → Result Content ReadError
with_qos dup bs at None = bad FirstByte 0
with_qos dup bs at (Some qos) = topic_in dup qos bs at

-- the flags of the first byte: bit 3 DUP, bits 1 and 2 QoS; bit 0, RETAIN, has no effect
unfoldable pub publish_in : ℕ → List ℕ → ℕ → Result Content ReadError
publish_in flags bs at = with_qos (nat_le 8 flags) bs at (qos_of (flags / 2 % 4))

-- ---- SUBSCRIBE and UNSUBSCRIBE: identifier, one filter to eight

-- a SUBSCRIBE's filters have a QoS byte each
abbrev pub filters_of : Bool → ℕ → List Entry → Content
filters_of true id es = subscribe id es
filters_of false id es = unsubscribe id es

unfoldable pub subscribe_in : Bool → List ℕ → ℕ → Result Content ReadError
subscribe_in graded bs at =
    onward (λ p. onward (λ es. Ok (filters_of graded p.0 es)) (some_filters graded p.1 (at + 2))) (identifier_in bs at)

-- ---- SUBACK: identifier, one code to eight

-- a code: a granted quality of service, or 0x80 for a refusal
abbrev pub is_code : ℕ → Bool
is_code c = nat_le c 2 || c == 128

-- codes up to the end of the packet, at most k: one too many is left over
abbrev pub codes_in : ℕ → List ℕ → ℕ → Result (List ℕ) ReadError
codes_in zero [] at = Ok []
codes_in zero (c ∷ cs) at = bad End at
codes_in (suc k) [] at = Ok []
codes_in (suc k) (c ∷ cs) at = cond (is_code c) (onward (λ ds. Ok (c ∷ ds)) (codes_in k cs (at + 1))) (bad QosOrCode at)

-- one code to eight
abbrev pub some_codes : List ℕ → ℕ → Result (List ℕ) ReadError
some_codes [] at = missing [] at
some_codes (c ∷ cs) at = codes_in 8 (c ∷ cs) at

unfoldable pub suback_in : List ℕ → ℕ → Result Content ReadError
suback_in bs at = onward (λ p. onward (λ cs. Ok (suback p.0 cs)) (some_codes p.1 (at + 2))) (identifier_in bs at)

-- ---- PUBACK, PUBREC, PUBREL, PUBCOMP and UNSUBACK: identifier

-- a packet of nothing but its identifier
abbrev pub ack_in : (ℕ → Content) → List ℕ → ℕ → Result Content ReadError
ack_in ack bs at = onward (λ id. Ok (ack id)) (only_identifier bs at)

-- ---- the whole packet

-- the body by its type; PINGREQ, PINGRESP and DISCONNECT are empty
abbrev pub body_in : PacketType → ℕ → List ℕ → ℕ → Result Content ReadError
body_in Connect flags bs at = connect_in bs at
body_in ConnAck flags bs at = connack_in bs at
body_in Publish flags bs at = publish_in flags bs at
body_in PubAck flags bs at = ack_in puback bs at
body_in PubRec flags bs at = ack_in pubrec bs at
body_in PubRel flags bs at = ack_in pubrel bs at
body_in PubComp flags bs at = ack_in pubcomp bs at
body_in Subscribe flags bs at = subscribe_in true bs at
body_in SubAck flags bs at = suback_in bs at
body_in Unsubscribe flags bs at = subscribe_in false bs at
body_in UnsubAck flags bs at = ack_in unsuback bs at
body_in PingReq flags bs at = ended bs at pingreq
body_in PingResp flags bs at = ended bs at pingresp
body_in Disconnect flags bs at = ended bs at disconnect

-- first byte and remaining length come first
abbrev pub after_parts : Result Told BadField → Result Content ReadError
after_parts (Ok p) = body_in p.type_is p.flags p.body p.place
after_parts (Err e) = Err (Bad e)

-- what bytes are read as
unfoldable pub reads : List ℕ → Result Content ReadError
reads bs = after_parts (parts_in bs)

-- ---- answers of the code

-- codes that pass are told as they stand
abbrev pub passed : List ℕ → Result (Unit {0}) ReadError → Result (List ℕ) ReadError
passed cs (Ok u) = Ok cs
passed cs (Err e) = Err e
